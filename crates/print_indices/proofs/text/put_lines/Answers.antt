use Rattle.std.proofs.Common.{sym, ◌∙◌}
use Rattle.printing.proofs.Puts.{fits-first, ahead_first, ahead_then, ahead_none}
use Rattle.print_indices.specs.Text.{line}
use Rattle.print_indices.proofs.Lines.{lines_end, lines_found, fewer, found_inside}
use Rattle.print_indices.proofs.text.put_lines.Goals as goal

pub loop-s-init : goal.loop-s-init
loop-s-init c =
    rw c.start-cursor.ensures.value (ahead_first _ _ c.requires)

pub returns : goal.returns
returns c =
    ahead_none (rw (lines_end _ _ (sym c.next.ensures.value ∙ c.in_default.is)) at c.loop-s.invariant)

pub put_line-requires : goal.put_line-requires
put_line-requires c =
    let found = sym c.next.ensures.value ∙ c.in-Some.is in
    record { length_in_bounds = found_inside _ _ _ _ (found); fits = fits-first _ (line _) _ (rw (lines_found _ _ _ _ (found)) at c.loop-s.invariant).fits }

pub loop-s-smaller : goal.loop-s-smaller
loop-s-smaller c =
    let found = sym c.next.ensures.value ∙ c.in-Some.is in
    fewer _ _ _ _ (found)

pub loop-s-preserved : goal.loop-s-preserved
loop-s-preserved c =
    let found = sym c.next.ensures.value ∙ c.in-Some.is in
    ahead_then _ (rw (lines_found _ _ _ _ (found)) at c.loop-s.invariant) c.put_line.ensures

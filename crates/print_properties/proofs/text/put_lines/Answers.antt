use mathlib.Core.Path.{◌≡◌, sym, ◌∙◌}
use Rattle.std.specs.Prelude.{Some}
use Rattle.property_area.specs.Claims.Cursor.{next_of}
use Rattle.printing.proofs.Puts.{fits-first, ahead_first, ahead_then, ahead_none}
use Rattle.print_properties.specs.Text.{line}
use Rattle.print_properties.proofs.Lines.{lines_end, lines_found, fewer, found_inside}
use Rattle.print_properties.proofs.text.put_lines.Goals as goal

pub loop-found-init : goal.loop-found-init
loop-found-init c =
    rw c.start-cursor.ensures.value (ahead_first _ _ c.requires)

pub put_line-requires : goal.put_line-requires
put_line-requires c =
    let found : next_of c.args.input.now c.loop-found.cursor ≡ Some (c.in-Some.found, c.in-Some.behind) =
    sym c.next.ensures.value ∙ c.in-Some.is in
    record { inside = found_inside _ _ _ _ (found); fits = fits-first _ (line _) _ (rw (lines_found _ _ _ _ (found)) at c.loop-found.invariant).fits }

pub loop-found-smaller : goal.loop-found-smaller
loop-found-smaller c =
    let found : next_of c.args.input.now c.loop-found.cursor ≡ Some (c.in-Some.found, c.in-Some.behind) =
    sym c.next.ensures.value ∙ c.in-Some.is in
    fewer _ _ _ _ (found)

pub loop-found-preserved : goal.loop-found-preserved
loop-found-preserved c =
    let found : next_of c.args.input.now c.loop-found.cursor ≡ Some (c.in-Some.found, c.in-Some.behind) =
    sym c.next.ensures.value ∙ c.in-Some.is in
    ahead_then _ (rw (lines_found _ _ _ _ (found)) at c.loop-found.invariant) c.put_line.ensures

pub returns : goal.returns
returns c =
    ahead_none (rw (lines_end _ _ (sym c.next.ensures.value ∙ c.in_default.is)) at c.loop-found.invariant)

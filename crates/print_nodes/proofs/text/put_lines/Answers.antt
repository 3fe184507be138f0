use mathlib.Core.Path.{sym, ◌∙◌}
use mathlib.Core.List.{◌++◌}
use Rattle.node_area.specs.Claims.Cursor.{remaining, start_of}
use Rattle.print_nodes.specs.Text.{line, lines}
use Rattle.print_nodes.proofs.Lines.{lines_end, lines_entry, fewer}
use Rattle.printing.proofs.Puts.{fits-first, Ahead, ahead_first, ahead_then, ahead_none}
use Rattle.print_nodes.proofs.text.put_lines.Goals as goal

pub loop-operation-init : goal.loop-operation-init
loop-operation-init c =
    rw c.start-cursor.ensures.value (ahead_first _ _ c.requires)

pub put_line-requires : goal.put_line-requires
put_line-requires c =
    let entry : let input = c.args.input.now in Ahead (lines (remaining input start_of)) c.args.out.now c.loop-operation.out
    (line c.in-Some.operation ++ lines (remaining input c.in-Some.behind)) =
    rw (lines_entry _ _ _ _ (sym c.next.ensures.value ∙ c.in-Some.is)) at c.loop-operation.invariant in
    fits-first _ (line _) _ entry.fits

pub loop-operation-smaller : goal.loop-operation-smaller
loop-operation-smaller c =
    fewer _ _ _ _ (sym c.next.ensures.value ∙ c.in-Some.is)

pub loop-operation-preserved : goal.loop-operation-preserved
loop-operation-preserved c =
    let entry : let input = c.args.input.now in Ahead (lines (remaining input start_of)) c.args.out.now c.loop-operation.out
    (line c.in-Some.operation ++ lines (remaining input c.in-Some.behind)) =
    rw (lines_entry _ _ _ _ (sym c.next.ensures.value ∙ c.in-Some.is)) at c.loop-operation.invariant in
    ahead_then _ (entry) c.put_line.ensures

pub returns : goal.returns
returns c =
    ahead_none (rw (lines_end _ _ (sym c.next.ensures.value ∙ c.in_default.is)) at c.loop-operation.invariant)

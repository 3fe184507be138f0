-- `text::put_lines` meets its contract.
use lib.ListN.{length}
use Rattle.node_area.specs.Claims.Cursor.{remaining, start_of}
use Rattle.print_nodes.specs.Text.{lines}
use Rattle.printing.proofs.Puts.{Ahead}
use Rattle.print_nodes.proofs.text.put_lines.Given as goal

abbrev pub invariant-loop-operation : goal.invariant-loop-operation
invariant-loop-operation l = Ahead (lines (remaining l.input start_of)) l.initial.out l.out (lines (remaining l.input l.cursor))

abbrev pub decreases-loop-operation : goal.decreases-loop-operation
decreases-loop-operation l = length (remaining l.input l.cursor)

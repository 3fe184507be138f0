-- `text::put_lines` meets its contract.
use lib.ListN.{length}
use Rattle.indices.specs.Cursor.{remaining, start_of}
use Rattle.printing.proofs.Puts.{Ahead}
use Rattle.print_indices.specs.Text.{lines}
use Rattle.print_indices.proofs.text.put_lines.Given as goal

abbrev pub invariant-loop-s : goal.invariant-loop-s
invariant-loop-s l = Ahead (lines (remaining l.input (start_of l.input))) l.initial.out l.out (lines (remaining l.input l.cursor))

abbrev pub decreases-loop-s : goal.decreases-loop-s
decreases-loop-s l = length (remaining l.input l.cursor)

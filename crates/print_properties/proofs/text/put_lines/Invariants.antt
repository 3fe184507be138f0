-- `text::put_lines` meets its contract.
use lib.ListN.{length}
use Rattle.property_area.specs.Claims.Cursor.{remaining, start_of}
use Rattle.printing.proofs.Puts.{Ahead}
use Rattle.print_properties.specs.Text.{lines}
use Rattle.print_properties.proofs.text.put_lines.Given as goal

abbrev pub invariant-loop-found : goal.invariant-loop-found
invariant-loop-found l = Ahead (lines (remaining l.input (start_of l.input))) l.initial.out l.out (lines (remaining l.input l.cursor))

abbrev pub decreases-loop-found : goal.decreases-loop-found
decreases-loop-found l = length (remaining l.input l.cursor)

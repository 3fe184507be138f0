-- `reading::Cursor::next` meets its contract.
use mathlib.Core.Path.{◌≡◌}
use Prim.Native.Nat.{◌-◌}
use lib.ListN.{length}
use Rattle.node_area.specs.Claims.Cursor.{next_of}
use Rattle.node_area.proofs.reading.Cursor.next.Given as goal

abbrev pub invariant-loop-cursor : goal.invariant-loop-cursor
invariant-loop-cursor l = next_of l.area l.initial.cursor ≡ next_of l.area l.cursor

abbrev pub decreases-loop-cursor : goal.decreases-loop-cursor
decreases-loop-cursor l = length l.area - l.cursor.at

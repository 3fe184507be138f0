-- `writing::write_due` meets its contract.
use Prim.Native.Nat.{◌-◌}
use lib.ListN.{length}
use Rattle.properties.specs.Changes.{changes, due_at}
use Rattle.properties.specs.Filling.{area_room, fill}
use Rattle.properties.proofs.Writes.{Writing}
use Rattle.properties.proofs.writing.write_due.Given as goal

abbrev pub invariant-loop-at : goal.invariant-loop-at
invariant-loop-at l = Writing l.initial.area (fill area_room (due_at l.state (changes l.phandle l.j))) l.phandle l.state l.j l.area l.at l.to l.count

abbrev pub decreases-loop-at : goal.decreases-loop-at
decreases-loop-at l = length l.j - l.at

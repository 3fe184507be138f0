-- `reading::check_operators` meets its contract.
use Prim.Native.Nat.{◌-◌}
use Rattle.node_area.proofs.Verdicts.{Stands}
use Rattle.node_area.specs.Head.{area_size}
use Rattle.node_area.proofs.reading.check_operators.Given as goal

abbrev pub invariant-loop-at : goal.invariant-loop-at
invariant-loop-at l = Stands l.area l.at l.last l.entries

abbrev pub decreases-loop-at : goal.decreases-loop-at
decreases-loop-at l = area_size - l.at

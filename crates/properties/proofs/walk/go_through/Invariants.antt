-- `walk::go_through` meets its contract.
use Prim.Native.Nat.{◌+◌, ◌-◌}
use Rattle.properties.proofs.Going.{Going}
use Rattle.properties.proofs.walk.go_through.Given as goal

abbrev pub invariant-loop-r : goal.invariant-loop-r
invariant-loop-r l = Going l.fresh l.room l.start l.length l.state l.r l.at l.left l.found

-- a cut is at a later byte, but for the first where no byte has room before it
abbrev pub decreases-loop-r : goal.decreases-loop-r
decreases-loop-r l = l.left + (1 - l.r)

-- `steps::past_same` meets its contract.
use Prim.Native.Nat.{◌-◌}
use Rattle.stretch.proofs.Going.{Onward}
use Rattle.stretch.proofs.steps.past_same.Given as goal

abbrev pub invariant-loop-s : goal.invariant-loop-s
invariant-loop-s l = Onward l.j l.initial.s l.s

abbrev pub decreases-loop-s : goal.decreases-loop-s
decreases-loop-s l = l.limit - l.s.end

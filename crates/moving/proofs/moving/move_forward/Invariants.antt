-- `moving::move_forward` meets its contract.
use Prim.Native.Nat.{◌-◌}
use Rattle.moving.proofs.Pieces.{Front}
use Rattle.moving.proofs.moving.move_forward.Given as goal

abbrev pub invariant-loop-done : goal.invariant-loop-done
invariant-loop-done l = Front l.initial.bytes l.to l.from l.size l.done l.bytes

abbrev pub decreases-loop-done : goal.decreases-loop-done
decreases-loop-done l = l.size - l.done

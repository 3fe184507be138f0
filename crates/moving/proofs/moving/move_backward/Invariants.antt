-- `moving::move_backward` meets its contract.
use Rattle.moving.proofs.Pieces.{Back}
use Rattle.moving.proofs.moving.move_backward.Given as goal

abbrev pub invariant-loop-left : goal.invariant-loop-left
invariant-loop-left l = Back l.initial.bytes l.to l.from l.size l.left l.bytes

abbrev pub decreases-loop-left : goal.decreases-loop-left
decreases-loop-left l = l.left

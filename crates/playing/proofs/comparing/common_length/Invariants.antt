-- `comparing::common_length` meets its contract.
use Rattle.playing.proofs.Leaves.{Alike}
use Rattle.playing.proofs.comparing.common_length.Given as goal

abbrev pub invariant-loop-i : goal.invariant-loop-i
invariant-loop-i l = Alike l.a l.b l.i

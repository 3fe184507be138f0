use native.Mathlib.Omega.{arith}
use Rattle.playing.proofs.Leaves.{common_start, common_later, common_here, common_end}
use Rattle.playing.proofs.comparing.common_length.Goals as goal

pub loop-i-init : goal.loop-i-init
loop-i-init c =
    common_start c.args.a.now c.args.b.now

pub loop-i-preserved : goal.loop-i-preserved
loop-i-preserved c =
    common_later c.loop-i.invariant (omega arith) (omega arith) c.if-a-i.false

pub returns-then-a-i : goal.returns-then-a-i
returns-then-a-i c =
    common_here c.loop-i.invariant (omega arith) (omega arith) c.if-a-i.true

pub returns : goal.returns
returns c =
    rw c.min-shorter.ensures (common_end c.loop-i.invariant (omega arith))

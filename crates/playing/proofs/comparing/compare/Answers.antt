-- `comparing::compare` meets its contract.
use native.Mathlib.Omega.{arith}
use Rattle.playing.proofs.Leaves.{common_most, compared_other, compared_longer, compared_same}
use Rattle.playing.proofs.comparing.compare.Goals as goal
use Rattle.playing.proofs.comparing.compare.Goals.{else-same-recorded-via-then-same-recorded+else-same-ours, else-same-recorded-via-else-same-recorded}

pub overflow_cast-result : goal.overflow_cast-result
overflow_cast-result c =
    let a = c.args in omega (arith, common_most a.recorded.now a.ours.now)

pub returns-then-same-ours : goal.returns-then-same-ours
returns-then-same-ours c =
    let a = c.args in compared_same a.calls a.recorded.now a.ours.now _ c.common_length-same.ensures c.if-same-recorded.true c.if-same-ours.true

pub returns : goal.returns
returns c =
    let a = c.args in
    elim c.else-same-recorded.branch [
      | else-same-recorded-via-then-same-recorded+else-same-ours w ↦ compared_longer a.calls a.recorded.now a.ours.now _ c.common_length-same.ensures w.if-same-ours.false
      | else-same-recorded-via-else-same-recorded w ↦ compared_other a.calls a.recorded.now a.ours.now _ c.common_length-same.ensures w.if-same-recorded.false
    ]

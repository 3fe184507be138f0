-- `counts::made_came` meets its contract.
use native.Mathlib.Omega.{arith}
use Rattle.replay_states.proofs.Counted.{made_number, made_records}
use Rattle.replay_states.proofs.counts.made_came.Goals as goal

pub returns-then-flat-le1 : goal.returns-then-flat-le1
returns-then-flat-le1 c =
    let a = c.args in
    made_number a.flat.verdict a.flat.offset a.flat.number a.records a.waits a.n (omega (arith, c.if-flat-le1.true))

pub returns : goal.returns
returns c =
    let a = c.args in
    made_records a.flat.verdict a.flat.offset a.flat.number a.records a.waits a.n (omega (arith, c.if-flat-le1.false))

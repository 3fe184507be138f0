-- `coming::agreed_came` meets its contract.
use Prim.Native.Nat.{◌+◌}
use native.Mathlib.Omega.{arith}
use borrow.Author.Tests.{le-leb, lt-leb}
use Rattle.replay_states.proofs.coming.agreed_came.Goals as goal

pub returns-then-calls-least : goal.returns-then-calls-least
returns-then-calls-least c =
    rw (lt-leb _ _ c.if-calls-least.true)

pub returns-then-records-calls : goal.returns-then-records-calls
returns-then-records-calls c =
    let a = c.args in rw (le-leb _ _ c.if-calls-least.false, lt-leb (a.calls + a.calls + a.waits) a.records (omega (arith, c.if-records-calls.true)))

pub returns : goal.returns
returns c =
    rw (le-leb _ _ c.if-calls-least.false)

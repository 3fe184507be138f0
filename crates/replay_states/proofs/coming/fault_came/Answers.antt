-- `coming::fault_came` meets its contract.
use Prim.Native.Nat.{◌+◌}
use native.Mathlib.Omega.{arith}
use borrow.Author.Tests.{eq-eqb, ne_eqb}
use Rattle.replay_states.proofs.coming.fault_came.Goals as goal

pub returns-then-records-waits : goal.returns-then-records-waits
returns-then-records-waits c =
    let a = c.args in rw (ne_eqb (a.number + a.waits) (a.records + 1) (λ e. c.if-records-waits.true (omega (arith, e))))

pub returns : goal.returns
returns c =
    let a = c.args in rw (eq-eqb (a.number + a.waits) (a.records + 1) (omega (arith, c.if-records-waits.false, c.requires.1.0)))

-- `run::room_after` meets its contract.
use native.Mathlib.Omega.{arith}
use Rattle.nodes.proofs.Runs.{operator_zero, operator_pos}
use Rattle.nodes.proofs.run.room_after.Goals as goal

pub returns-then-n-eq0 : goal.returns-then-n-eq0
returns-then-n-eq0 c =
    omega (arith, operator_zero _ c.if-n-eq0.true)

pub returns : goal.returns
returns c =
    omega (arith, operator_pos c.args.n (omega arith))

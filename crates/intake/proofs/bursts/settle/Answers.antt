-- `bursts::settle` meets its contract.
use native.Mathlib.Omega.{arith}
use Rattle.intake.proofs.Standings.{settle_still, settle_past}
use Rattle.intake.proofs.bursts.settle.Goals as goal

pub returns-then-still-gt0 : goal.returns-then-still-gt0
returns-then-still-gt0 c =
    settle_still c.requires _ {f = c.finish-finished.result} c.finish-finished.ensures c.if-still-gt0.true

pub returns : goal.returns
returns c =
    settle_past c.requires _ {f = c.finish-finished.result} c.finish-finished.ensures (omega arith) c.pass-passed.ensures _ _ c.fill-left.auto.buffer c.fill-left.ensures

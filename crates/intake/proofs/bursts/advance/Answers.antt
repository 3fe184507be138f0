-- `bursts::advance` meets its contract.
use native.Mathlib.Omega.{arith}
use Rattle.intake.proofs.Sweeps.{advance_takeable, advance_all, advance_one}
use Rattle.intake.proofs.bursts.advance.Goals as goal

pub take_stretch-run-requires : goal.take_stretch-run-requires
take_stretch-run-requires c =
    advance_takeable c.requires _ _ c.nothing.ensures

pub returns-then-more-gt0 : goal.returns-then-more-gt0
returns-then-more-gt0 c =
    advance_all c.requires c.take_stretch-run.ensures c.if-more-gt0.true

pub returns : goal.returns
returns c =
    advance_one c.requires c.take_stretch-run.ensures (omega (arith, c.if-more-gt0.false)) _ _ c.take-next.ensures

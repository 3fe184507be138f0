-- `bursts::burst` meets its contract.
use Rattle.tallies.proofs.Claims.{tally_claims}
use Rattle.intake.proofs.Claims.{intake_claims}
use Rattle.intake.proofs.Sweeps.{burst_all}
use Rattle.intake.proofs.bursts.burst.Goals as goal

pub returns : goal.returns
returns c =
    record { bursts = burst_all c.requires c.sweep-swept.ensures c.settle.ensures; claims = (tally_claims, intake_claims) }

-- `bursts::start` meets its contract.
use mathlib.Core.Path.{refl}
use Rattle.tallies.proofs.Claims.{tally_claims}
use Rattle.intake.proofs.Claims.{intake_claims}
use Rattle.intake.proofs.bursts.start.Goals as goal

pub returns : goal.returns
returns c =
    record { value = refl; claims = (tally_claims, intake_claims) }

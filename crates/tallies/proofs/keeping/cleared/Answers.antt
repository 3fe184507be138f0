-- `keeping::cleared` meets its contract.
use Rattle.tallies.proofs.Claims.{tally_claims}
use Rattle.tallies.proofs.keeping.cleared.Goals as goal

pub returns : goal.returns
returns c =
    record { value = cc; claims = tally_claims }

-- `registration::flat_of` meets its contract.
use Rattle.crossing.proofs.registration.flat_of.Goals as goal

pub returns : goal.returns
returns c =
    rw c.phase_number.ensures

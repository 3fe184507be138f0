-- `registration::registration_of` meets its contract.
use mathlib.Core.Path.{refl}
use Rattle.crossing.proofs.Registrations.{faithful, registration_exactly}
use Rattle.crossing.proofs.registration.registration_of.Goals as goal

pub returns : goal.returns
returns c =
    rw c.phase_of.ensures record { value = refl; faithful = faithful; exactly = registration_exactly }

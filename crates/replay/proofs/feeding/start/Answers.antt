-- `feeding::start` meets its contract.
use mathlib.Core.Path.{refl}
use Rattle.replay.proofs.Ending.{replay_claims}
use Rattle.replay.proofs.feeding.start.Goals as goal

pub returns : goal.returns
returns c =
    rw (c.no_registration.ensures, c.no_reading.ensures, c.no_counts.ensures) (record { value = refl; claims = replay_claims })

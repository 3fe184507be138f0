-- `playing::fault` meets its contract.
use Rattle.playing.proofs.playing.fault.Goals as goal

pub returns : goal.returns
returns c =
    rw c.blamed.ensures

-- `month::flat_counting_of` meets its contract.
use Rattle.draugsten_replay.proofs.month.flat_counting_of.Goals as goal

pub returns : goal.returns
returns c =
    rw c.flat_replay_of.ensures

-- `feeding::draugsten_replay_start` meets its contract.
use mathlib.Core.Path.{ap, ◌∙◌}
use Rattle.replay_states.specs.States.{flat_replay_of}
use Rattle.draugsten_replay.proofs.Promises.{replay_promise}
use Rattle.draugsten_replay.proofs.feeding.draugsten_replay_start.Goals as goal

pub flat_replay_of-requires : goal.flat_replay_of-requires
flat_replay_of-requires c =
    rw c.start.ensures.value tt

pub returns : goal.returns
returns c =
    record { value = c.flat_replay_of.ensures ∙ ap flat_replay_of c.start.ensures.value; promise = replay_promise }

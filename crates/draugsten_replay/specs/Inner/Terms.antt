-- Terms of contracts inside the crate.
use Rattle.replay.specs.declared.feeding.Replay.{Replay}
use Rattle.replay_states.specs.States.{flat_replay_of}
use Rattle.draugsten_replay.specs.declared.month.FlatCounting.{FlatCounting}

abbrev pub flat_counting_of : Replay → FlatCounting
flat_counting_of r = record { replay = flat_replay_of r; counts = r.counts }

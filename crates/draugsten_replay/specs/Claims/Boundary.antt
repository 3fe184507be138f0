-- What is claimed of the replay at the C boundary, cited by the contracts of `draugsten_replay_start`, `draugsten_replay_feed` and `draugsten_replay_end`.
use Rattle.replay.specs.Claims.Replay.{ReplayClaims}
use Rattle.replay_states.specs.Claims.States.{StatesExactly}
use Rattle.draugsten_replay.specs.Claims.Feeding.{StartAccepted, FeedsExactly}
use Rattle.draugsten_replay.specs.Claims.WholeTrace.{WholeTrace, WholeTraceWitness}

pub record BoundaryClaims : Type 0 where
  pub start_accepted : StartAccepted
  pub whole_trace : WholeTrace
  pub whole_trace_witness : WholeTraceWitness
  pub feeds : FeedsExactly
  pub states : StatesExactly
  pub of_replays : ReplayClaims

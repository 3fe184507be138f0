-- The claims at the C boundary hold.
use Rattle.replay.proofs.Ending.{replay_claims}
use Rattle.replay_states.proofs.StateClaims.{states_exactly}
use Rattle.draugsten_replay.specs.Claims.Boundary.{BoundaryClaims}
use Rattle.draugsten_replay.proofs.Bursts.{start_accepted}
use Rattle.draugsten_replay.proofs.FeedClaims.{feeds_exactly}
use Rattle.draugsten_replay.proofs.WholeTrace.{whole_trace}
use Rattle.draugsten_replay.proofs.Witness.{whole_trace_witness}

pub boundary_claims : BoundaryClaims
boundary_claims = record { start_accepted = start_accepted; whole_trace = whole_trace; whole_trace_witness = whole_trace_witness; feeds = feeds_exactly; states = states_exactly; of_replays = replay_claims }

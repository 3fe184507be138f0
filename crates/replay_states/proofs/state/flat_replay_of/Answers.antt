-- `state::flat_replay_of` meets its contract.
use Rattle.replay_states.proofs.state.flat_replay_of.Goals as goal

pub returns : goal.returns
returns c =
    rw (c.flat_report_of.ensures, c.waiting_of.ensures, c.flat_of.ensures, c.flat_reading_of.ensures)

-- `state::replay_of` meets its contract.
use Rattle.replay_states.proofs.state.replay_of.Goals as goal

pub returns : goal.returns
returns c =
    rw (c.report_of.ensures, c.waiting_in.ensures, c.registration_of.ensures.value, c.reading_of.ensures.value)

-- `state::flat_report_of` meets its contract.
use Rattle.replay_states.proofs.state.flat_report_of.Goals as goal

pub returns-in-Agreed : goal.returns-in-Agreed
returns-in-Agreed c =
    rw c.in-Agreed.is

pub returns-in-Differs : goal.returns-in-Differs
returns-in-Differs c =
    rw c.in-Differs.is

pub returns-in-Malformed : goal.returns-in-Malformed
returns-in-Malformed c =
    rw c.in-Malformed.is

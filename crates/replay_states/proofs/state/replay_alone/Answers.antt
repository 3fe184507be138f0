-- `state::replay_alone` meets its contract.
use mathlib.Core.Path.{ap, ◌∙◌}
use Rattle.replay_states.specs.States.{replay_with}
use Rattle.replay_states.proofs.state.replay_alone.Goals as goal

pub returns : goal.returns
returns c =
    c.replay_of.ensures ∙ ap (replay_with c.args.flat) c.no_counts.ensures

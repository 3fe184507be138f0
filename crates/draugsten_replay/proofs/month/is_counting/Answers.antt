-- `month::is_counting` meets its contract.
use mathlib.Core.Path.{sym, ◌∙◌}
use Rattle.draugsten_replay.specs.Month.{is_counting_by}
use Rattle.draugsten_replay.proofs.month.is_counting.Goals as goal

pub are_counts-requires : goal.are_counts-requires
are_counts-requires c =
    sym c.is_state.ensures.value ∙ c.if-is_state.true

pub returns-then-is_state : goal.returns-then-is_state
unfolding is_counting_by
returns-then-is_state c =
    rw (← c.is_state.ensures.value, c.if-is_state.true) c.are_counts.ensures

pub returns-else-is_state : goal.returns-else-is_state
unfolding is_counting_by
returns-else-is_state c =
    rw (← c.is_state.ensures.value, c.if-is_state.false)

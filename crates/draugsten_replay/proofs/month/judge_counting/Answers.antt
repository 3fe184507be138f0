-- `month::judge_counting` meets its contract.
use mathlib.Core.Path.{◌≡◌, sym, ◌∙◌}
use borrow.Author.Tests.{ne_eqb}
use Rattle.replay_states.specs.States.{judged_by}
use Rattle.replay_states.proofs.States.{taken_by}
use Rattle.draugsten_replay.specs.Month.{judged_counting_by}
use Rattle.draugsten_replay.proofs.month.judge_counting.Goals as goal

pub returns-then-number-ne0 : goal.returns-then-number-ne0
unfolding judged_counting_by
returns-then-number-ne0 c =
    rw (← c.judge-number.ensures.value, ne_eqb c.judge-number.result 0 c.if-number-ne0.true)

pub are_counts-requires : goal.are_counts-requires
are_counts-requires c =
    let alone : let a = c.args in judged_by a.held.now a.room a.replay ≡ 0 =
    sym c.judge-number.ensures.value ∙ c.if-number-ne0.false in
    taken_by _ _ _ (alone)

pub returns-then-are_counts : goal.returns-then-are_counts
unfolding judged_counting_by
returns-then-are_counts c =
    let alone : let a = c.args in judged_by a.held.now a.room a.replay ≡ 0 =
    sym c.judge-number.ensures.value ∙ c.if-number-ne0.false in
    rw (alone, ← c.are_counts.ensures, c.if-are_counts.true)

pub returns : goal.returns
unfolding judged_counting_by
returns c =
    let alone : let a = c.args in judged_by a.held.now a.room a.replay ≡ 0 =
    sym c.judge-number.ensures.value ∙ c.if-number-ne0.false in
    rw (alone, ← c.are_counts.ensures, c.if-are_counts.false)

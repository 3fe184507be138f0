-- `coming::held_came` meets its contract.
use borrow.Author.Tests.{eq-eqb, ne_eqb}
use Rattle.replay_states.specs.States.{held_came}
use Rattle.replay_states.proofs.coming.held_came.Goals as goal

pub returns-then-held-eq0 : goal.returns-then-held-eq0
unfolding held_came
returns-then-held-eq0 c =
    rw (eq-eqb _ 0 c.if-held-eq0.true)

pub returns-then-verdict-eq0 : goal.returns-then-verdict-eq0
unfolding held_came
returns-then-verdict-eq0 c =
    rw (ne_eqb _ 0 c.if-held-eq0.false, eq-eqb _ 0 c.if-verdict-eq0.true)

pub returns-else-verdict-eq0 : goal.returns-else-verdict-eq0
unfolding held_came
returns-else-verdict-eq0 c =
    rw (ne_eqb _ 0 c.if-held-eq0.false, ne_eqb _ 0 c.if-verdict-eq0.false)

-- `state::report_of` meets its contract.
use native.Mathlib.Omega.{arith}
use borrow.Author.Tests.{eq-eqb, ne_eqb}
use Rattle.replay_states.specs.States.{report_of}
use Rattle.replay_states.proofs.state.report_of.Goals as goal

pub overflow_cast-result : goal.overflow_cast-result
overflow_cast-result c =
    omega (arith, c.requires (omega (arith, c.if-flat-eq0.true)))

pub returns-then-flat-eq0 : goal.returns-then-flat-eq0
unfolding report_of
returns-then-flat-eq0 c =
    rw (eq-eqb _ 0 c.if-flat-eq0.true)

pub overflow_cast-result-then-flat-eq1 : goal.overflow_cast-result-then-flat-eq1
overflow_cast-result-then-flat-eq1 c =
    omega (arith, c.requires (omega (arith, c.if-flat-eq1.true)))

pub returns-then-flat-eq1 : goal.returns-then-flat-eq1
unfolding report_of
returns-then-flat-eq1 c =
    rw (ne_eqb _ 0 c.if-flat-eq0.false, eq-eqb _ 1 c.if-flat-eq1.true)

pub returns : goal.returns
unfolding report_of
returns c =
    rw (ne_eqb _ 0 c.if-flat-eq0.false, ne_eqb _ 1 c.if-flat-eq1.false)

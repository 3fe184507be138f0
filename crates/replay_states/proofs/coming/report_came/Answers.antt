-- `coming::report_came` meets its contract.
use borrow.Author.Tests.{eq-eqb, ne_eqb}
use Rattle.replay_states.specs.States.{report_of}
use Rattle.replay_states.proofs.coming.report_came.Goals as goal

pub returns-then-flat-eq0 : goal.returns-then-flat-eq0
unfolding report_of
returns-then-flat-eq0 c =
    rw (eq-eqb _ 0 c.if-flat-eq0.true) c.agreed_came.ensures

pub returns-then-flat-eq1 : goal.returns-then-flat-eq1
unfolding report_of
returns-then-flat-eq1 c =
    rw (ne_eqb _ 0 c.if-flat-eq0.false, eq-eqb _ 1 c.if-flat-eq1.true) c.difference_came.ensures

pub returns : goal.returns
unfolding report_of
returns c =
    rw (ne_eqb _ 0 c.if-flat-eq0.false, ne_eqb _ 1 c.if-flat-eq1.false) c.fault_came.ensures

-- `coming::is_report` meets its contract.
use borrow.Author.Tests.{le-leb, lt-leb, eq-eqb, ne_eqb}
use Rattle.replay_states.specs.States.{is_report}
use Rattle.replay_states.proofs.coming.is_report.Goals as goal

pub returns-then-flat-eq1 : goal.returns-then-flat-eq1
unfolding is_report
returns-then-flat-eq1 c =
    rw (eq-eqb _ 1 c.if-flat-eq1.true)

pub returns-then-flat-le2 : goal.returns-then-flat-le2
unfolding is_report
returns-then-flat-le2 c =
    rw (ne_eqb _ 1 c.if-flat-eq1.false, le-leb _ 2 c.if-flat-le2.true)

pub returns-else-flat-le2 : goal.returns-else-flat-le2
unfolding is_report
returns-else-flat-le2 c =
    rw (ne_eqb _ 1 c.if-flat-eq1.false, lt-leb _ 2 c.if-flat-le2.false)

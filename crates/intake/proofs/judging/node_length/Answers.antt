-- `judging::node_length` meets its contract.
use borrow.Author.Tests.{eq-eqb, ne_eqb}
use Rattle.intake.proofs.judging.node_length.Goals as goal

pub returns-then-kind-eq4 : goal.returns-then-kind-eq4
returns-then-kind-eq4 c =
    rw (eq-eqb _ 4 c.if-kind-eq4.true)

pub returns-then-kind-eq3 : goal.returns-then-kind-eq3
returns-then-kind-eq3 c =
    rw (ne_eqb _ 4 c.if-kind-eq4.false, eq-eqb _ 3 c.if-kind-eq3.true)

pub returns-else-kind-eq3 : goal.returns-else-kind-eq3
returns-else-kind-eq3 c =
    rw (ne_eqb _ 4 c.if-kind-eq4.false, ne_eqb _ 3 c.if-kind-eq3.false)

-- `property::value_most` meets its contract.
use borrow.Author.Tests.{eq-eqb, ne_eqb}
use Rattle.journal.proofs.property.value_most.Goals as goal

pub returns-then-kind-eq5 : goal.returns-then-kind-eq5
returns-then-kind-eq5 c =
    rw (eq-eqb c.args.kind 5 c.if-kind-eq5.true)

pub returns-else-kind-eq5 : goal.returns-else-kind-eq5
returns-else-kind-eq5 c =
    rw (ne_eqb c.args.kind 5 c.if-kind-eq5.false)

-- `scope::units_of` meets its contract.
use borrow.Author.Tests.{eq-eqb, ne_eqb}
use Rattle.journal.specs.Scope.{units_of}
use Rattle.journal.proofs.scope.units_of.Goals as goal

pub returns-then-scope-eq3 : goal.returns-then-scope-eq3
unfolding units_of
returns-then-scope-eq3 c =
    rw (eq-eqb _ 3 c.if-scope-eq3.true)

pub returns-else-scope-eq3 : goal.returns-else-scope-eq3
unfolding units_of
returns-else-scope-eq3 c =
    rw (ne_eqb _ 3 c.if-scope-eq3.false)

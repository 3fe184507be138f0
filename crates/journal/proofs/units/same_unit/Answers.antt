-- `units::same_unit` meets its contract.
use borrow.Author.Tests.{eq-eqb, ne_eqb}
use Rattle.journal.proofs.units.same_unit.Goals as goal

pub returns-then-unit-wanted : goal.returns-then-unit-wanted
returns-then-unit-wanted c =
    rw (eq-eqb _ _ c.if-unit-wanted.true)

pub returns-else-unit-wanted : goal.returns-else-unit-wanted
returns-else-unit-wanted c =
    rw (ne_eqb _ _ c.if-unit-wanted.false)

-- `units::wanted_unit` meets its contract.
use Rattle.journal.proofs.units.wanted_unit.Goals as goal

pub returns-in-All : goal.returns-in-All
returns-in-All c =
    rw c.in-All.is

pub returns-in-One : goal.returns-in-One
returns-in-One c =
    rw c.in-One.is

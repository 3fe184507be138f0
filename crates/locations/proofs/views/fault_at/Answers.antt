-- `views::fault_at` meets its contract.
use Rattle.std.proofs.Common.{arith}
use Rattle.indices.specs.Reading.{length_at}
use Rattle.locations.proofs.Stepping.{fault_past}
use Rattle.locations.proofs.views.fault_at.Goals as goal

pub returns-then-saturating_sub-lt8 : goal.returns-then-saturating_sub-lt8
returns-then-saturating_sub-lt8 c =
    fault_past _ _ (omega arith)

pub fault_of-requires : goal.fault_of-requires
unfolding length_at
fault_of-requires c =
    (omega arith, c.read_be32.ensures)

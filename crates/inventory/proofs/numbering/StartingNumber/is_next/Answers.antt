-- `numbering::StartingNumber::is_next` meets its contract.
use mathlib.Core.Path.{refl}
use Rattle.inventory.proofs.numbering.StartingNumber.is_next.Goals as goal

pub returns : goal.returns
returns c =
    refl

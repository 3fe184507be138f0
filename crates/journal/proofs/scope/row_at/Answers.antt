-- `scope::row_at` meets its contract.
use mathlib.Core.Path.{refl}
use Rattle.journal.specs.Scope.{rows}
use Rattle.journal.proofs.scope.row_at.Goals as goal

pub returns : goal.returns
unfolding rows
returns c =
    refl

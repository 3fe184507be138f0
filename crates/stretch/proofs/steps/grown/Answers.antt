-- `steps::grown` meets its contract.
use Rattle.stretch.proofs.Going.{grows_narrow}
use Rattle.stretch.proofs.steps.grown.Goals as goal

pub add_times-requires : goal.add_times-requires
add_times-requires c =
    grows_narrow _ _ _ _ c.requires

pub returns : goal.returns
returns c =
    rw c.add_times.ensures

-- `steps::stretch_of` meets its contract.
use Rattle.stretch.proofs.Going.{light_nothing}
use Rattle.stretch.proofs.steps.stretch_of.Goals as goal

pub stretch_on-requires : goal.stretch_on-requires
stretch_on-requires c =
    rw c.nothing.ensures (light_nothing _ c.requires)

pub returns : goal.returns
returns c =
    rw (← c.nothing.ensures) (c.stretch_on.ensures.0, c.stretch_on.ensures.2)

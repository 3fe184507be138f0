-- `viewing::draugsten_view_step` meets its contract.
use Rattle.std.proofs.Common.{ap, ◌∙◌}
use Rattle.draugsten_locations.specs.Flat.{flat_step}
use Rattle.draugsten_locations.proofs.Promises.{view_promise}
use Rattle.draugsten_locations.proofs.viewing.draugsten_view_step.Goals as goal

pub returns : goal.returns
returns c =
    record { value = rw (← c.from.ensures) (c.from-2.ensures ∙ ap flat_step c.advance_at.ensures.value); promise = view_promise }

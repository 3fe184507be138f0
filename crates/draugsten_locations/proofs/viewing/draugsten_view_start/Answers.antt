-- `viewing::draugsten_view_start` meets its contract.
use Rattle.std.proofs.Common.{ap, ◌∙◌}
use Rattle.draugsten_locations.specs.Flat.{flat_cursor}
use Rattle.draugsten_locations.proofs.Promises.{view_promise}
use Rattle.draugsten_locations.proofs.viewing.draugsten_view_start.Goals as goal

pub returns : goal.returns
returns c =
    record { value = c.from.ensures ∙ ap flat_cursor c.start.ensures.value; promise = view_promise }

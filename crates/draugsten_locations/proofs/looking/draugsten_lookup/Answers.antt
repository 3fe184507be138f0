-- `looking::draugsten_lookup` meets its contract.
use Rattle.std.proofs.Common.{ap, ◌∙◌}
use Rattle.draugsten_locations.specs.Flat.{flat_location}
use Rattle.draugsten_locations.proofs.Promises.{lookup_promise}
use Rattle.draugsten_locations.proofs.looking.draugsten_lookup.Goals as goal

pub returns : goal.returns
returns c =
    record { value = c.from.ensures ∙ ap flat_location c.locate.ensures.value; promise = lookup_promise }

-- `keeping::draugsten_tallies_cleared` meets its contract.
use mathlib.Core.Path.{ap, ◌∙◌}
use Rattle.draugsten_tallies.specs.Flat.{flat_tallied}
use Rattle.draugsten_tallies.proofs.Promises.{tallies_promise}
use Rattle.draugsten_tallies.proofs.keeping.draugsten_tallies_cleared.Goals as goal

pub returns : goal.returns
returns c =
    record { value = c.into.ensures ∙ ap flat_tallied c.cleared.ensures.value; promise = tallies_promise }

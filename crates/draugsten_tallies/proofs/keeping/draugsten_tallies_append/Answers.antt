-- `keeping::draugsten_tallies_append` meets its contract.
use mathlib.Core.Path.{ap, ◌∙◌}
use Rattle.draugsten_tallies.specs.Flat.{flat_left}
use Rattle.draugsten_tallies.proofs.Promises.{tallies_promise}
use Rattle.draugsten_tallies.proofs.keeping.draugsten_tallies_append.Goals as goal

pub returns : goal.returns
returns c =
    record { journal_after = c.flat_kept.ensures _ ∙ ap flat_left (rw c.into.ensures at c.append.ensures.result_after); promise = tallies_promise }

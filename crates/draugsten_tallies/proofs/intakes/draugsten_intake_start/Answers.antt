-- `intakes::draugsten_intake_start` meets its contract.
use mathlib.Core.Path.{ap, ◌∙◌}
use Rattle.intake.specs.Bursts.{start_of}
use Rattle.draugsten_tallies.specs.Intakes.{flat_intake}
use Rattle.draugsten_tallies.proofs.Promises.{intake_promise}
use Rattle.draugsten_tallies.proofs.intakes.draugsten_intake_start.Goals as goal

pub returns : goal.returns
returns c =
    record { value = c.into-2.ensures ∙ ap flat_intake (c.start.ensures.value ∙ ap start_of c.into.ensures); promise = intake_promise }

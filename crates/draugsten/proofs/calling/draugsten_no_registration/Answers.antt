-- `calling::draugsten_no_registration` meets its contract.
use mathlib.Core.Path.{ap, ◌∙◌}
use Rattle.crossing.specs.Registration.{flat_of}
use Rattle.draugsten.proofs.Promises.{no_registration_promise}
use Rattle.draugsten.proofs.calling.draugsten_no_registration.Goals as goal

pub returns : goal.returns
returns c =
    record { value = c.flat_of.ensures ∙ ap flat_of c.no_registration.ensures; promise = no_registration_promise }

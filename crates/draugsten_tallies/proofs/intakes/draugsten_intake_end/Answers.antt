-- `intakes::draugsten_intake_end` meets its contract.
use mathlib.Core.Path.{refl, ◌∙◌}
use Rattle.draugsten_tallies.proofs.Answers.{unready_some, end_refused, end_taken}
use Rattle.draugsten_tallies.proofs.Promises.{intake_promise}
use Rattle.draugsten_tallies.proofs.intakes.draugsten_intake_end.Goals as goal

pub returns-in-Err : goal.returns-in-Err
returns-in-Err c =
    record { value = rw c.into.ensures (end_refused _ _ c.from-from.ensures _ c.in-Err.ensures (unready_some c.in-Err.unready)); promise = intake_promise }

pub returns : goal.returns
returns c =
    record { value = c.into-2.ensures ∙ end_taken _ _ c.from-from.ensures _ c.in_default.ensures refl c.end.ensures.value; promise = intake_promise }

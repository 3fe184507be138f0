-- `intakes::draugsten_intake_burst` meets its contract.
use mathlib.Core.Path.{refl, sym}
use Rattle.draugsten_tallies.proofs.IntakeCrossed.{each_state}
use Rattle.draugsten_tallies.proofs.Answers.{unready_some, burst_refused, burst_taken}
use Rattle.draugsten_tallies.proofs.Promises.{intake_promise}
use Rattle.draugsten_tallies.proofs.intakes.draugsten_intake_burst.Goals as goal

pub returns-in-Err : goal.returns-in-Err
returns-in-Err c =
    record { flat_bursts = rw c.into.ensures (burst_refused _ _ c.from-from.ensures c.in-Err.ensures (unready_some c.in-Err.unready)); promise = intake_promise }

pub burst-next-requires : goal.burst-next-requires
burst-next-requires c =
    (each_state _ _ _).taken.0 (sym c.in_default.ensures)

pub returns : goal.returns
returns c =
    record { flat_bursts = burst_taken _ _ c.from-from.ensures c.in_default.ensures _ refl c.burst-next.ensures.bursts c.outcome_number.ensures c.record_for.ensures c.into-2.ensures; promise = intake_promise }

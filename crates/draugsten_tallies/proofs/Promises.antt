-- The promises of the archive hold.
use Rattle.journal.proofs.Claims.{journal_claims}
use Rattle.tallies.proofs.Claims.{recount_claims, tally_claims}
use Rattle.tallies.proofs.Joining.{join_claims}
use Rattle.intake.proofs.Claims.{intake_claims}
use Rattle.intake.proofs.Taken.{ready_exactly}
use Rattle.calls.proofs.Claims.{call_claims}
use Rattle.forecast.proofs.Claims.{forecast_claims}
use Rattle.draugsten_tallies.proofs.Crossed.{crossing_claims}
use Rattle.draugsten_tallies.proofs.IntakeTells.{intake_crossing}
use Rattle.draugsten_tallies.proofs.CutReadings.{each_cut}
use Rattle.draugsten_tallies.specs.Promises.{TalliesPromise, JoinPromise, RecountPromise, ForecastPromise, IntakePromise}

pub tallies_promise : TalliesPromise
tallies_promise = record { tallies = tally_claims; crossing = crossing_claims; journal = journal_claims }

pub join_promise : JoinPromise
join_promise = record { joins = join_claims; tallies = tallies_promise }

pub recount_promise : RecountPromise
recount_promise = record { recounts = recount_claims; crossing = crossing_claims; journal = journal_claims }

pub forecast_promise : ForecastPromise
forecast_promise = record { forecasts = forecast_claims; calls = call_claims; recounts = recount_claims; crossing = crossing_claims }

pub intake_promise : IntakePromise
intake_promise = record { intakes = intake_claims; crossing = intake_crossing; states = ready_exactly; cuts = each_cut; tallies = tallies_promise }

-- What is promised of each function of libdraugsten_tallies.a. Each function's contract cites one promise, which the header names; a promise is
-- made of the claims about the function and of what they rest on.
use Rattle.journal.specs.Claims.Journal.{JournalClaims}
use Rattle.tallies.specs.Claims.Tallies.{RecountClaims, TallyClaims}
use Rattle.tallies.specs.Claims.Joining.{JoinClaims}
use Rattle.intake.specs.Claims.Intake.{IntakeClaims}
use Rattle.intake.specs.Claims.States.{ReadyExactly}
use Rattle.calls.specs.Claims.Calls.{CallClaims}
use Rattle.forecast.specs.Claims.Forecast.{ForecastClaims}
use Rattle.draugsten_tallies.specs.Claims.Flat.{CrossingClaims}
use Rattle.draugsten_tallies.specs.Claims.Intakes.{IntakeCrossing}
use Rattle.draugsten_tallies.specs.Cases.Cuts.{EachCut}

-- draugsten_tallies_cleared and draugsten_tallies_append
pub record TalliesPromise : Type 0 where
  pub tallies : TallyClaims
  pub crossing : CrossingClaims
  pub journal : JournalClaims

-- draugsten_tallies_join
pub record JoinPromise : Type 0 where
  pub joins : JoinClaims
  pub tallies : TalliesPromise

-- draugsten_tallies_recount
pub record RecountPromise : Type 0 where
  pub recounts : RecountClaims
  pub crossing : CrossingClaims
  pub journal : JournalClaims

-- draugsten_forecast
pub record ForecastPromise : Type 0 where
  pub forecasts : ForecastClaims
  pub calls : CallClaims
  pub recounts : RecountClaims
  pub crossing : CrossingClaims

-- draugsten_intake_start, draugsten_intake_burst and draugsten_intake_end
pub record IntakePromise : Type 0 where
  pub intakes : IntakeClaims
  pub crossing : IntakeCrossing
  pub states : ReadyExactly
  pub cuts : EachCut
  pub tallies : TalliesPromise

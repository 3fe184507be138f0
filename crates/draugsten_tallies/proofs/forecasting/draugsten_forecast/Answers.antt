-- `forecasting::draugsten_forecast` meets its contract.
use mathlib.Core.Path.{refl}
use Rattle.draugsten_tallies.proofs.Promises.{forecast_promise}
use Rattle.draugsten_tallies.proofs.forecasting.draugsten_forecast.Goals as goal

pub returns : goal.returns
returns c =
    record { status_value = rw (c.from.ensures, c.forecast_from-told.ensures.value, c.into.ensures) (refl, refl); promise = forecast_promise }

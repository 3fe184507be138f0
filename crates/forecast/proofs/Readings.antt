-- The forecasts in numbers come out as they are written, by one computed test.
use Rattle.journal.specs.Scope.{negative}
use Rattle.nodes.specs.Run.{operator, cut}
use Rattle.forecast.specs.Forecast.{answer_from, forecast_of}
use Rattle.forecast.specs.Cases.Readings.{ForecastReadings}

pub forecast_readings : ForecastReadings
unfolding negative operator cut answer_from forecast_of
forecast_readings = tt

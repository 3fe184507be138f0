-- What is claimed of a forecast holds.
use mathlib.Core.Path.{refl}
use borrow.Author.Tests.{le-leb, lt-leb, ne_eqb}
use Rattle.journal.specs.Scope.{negative}
use Rattle.forecast.specs.Forecast.{forecast_of}
use Rattle.forecast.specs.Claims.Forecast.{EachRow, ForecastClaims}
use Rattle.forecast.proofs.Lists.{as_the_list}
use Rattle.forecast.proofs.Called.{as_the_call}
use Rattle.forecast.proofs.Witness.{call_witness}
use Rattle.forecast.proofs.Readings.{forecast_readings}

each_row : EachRow
unfolding forecast_of negative
each_row t state = record {
  negative = λ scope h. rw (le-leb 0x8000_0000 scope h);
  first = refl;
  second = refl;
  others = λ scope h one two. rw (lt-leb 0x8000_0000 scope h, ne_eqb scope 1 one, ne_eqb scope 2 two) (refl, refl);
}

pub forecast_claims : ForecastClaims
forecast_claims = record { as_the_call = as_the_call; witness = call_witness; each_row = each_row; as_the_list = as_the_list; readings = forecast_readings }

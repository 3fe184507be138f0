-- `forecasting::forecast_from` meets its contract.
use borrow.Author.Tests.{le-leb, lt-leb, eq-eqb, ne_eqb}
use Rattle.journal.specs.Scope.{negative}
use Rattle.forecast.specs.Forecast.{forecast_of}
use Rattle.forecast.proofs.Claims.{forecast_claims}
use Rattle.forecast.proofs.forecasting.forecast_from.Goals as goal

pub returns-then-scope-ge2147483648 : goal.returns-then-scope-ge2147483648
unfolding forecast_of negative
returns-then-scope-ge2147483648 c =
    record { value = rw (le-leb _ _ c.if-scope-ge2147483648.true) c.answer_from.ensures; claims = forecast_claims }

pub returns-then-scope-eq1 : goal.returns-then-scope-eq1
unfolding forecast_of negative
returns-then-scope-eq1 c =
    record { value = rw (lt-leb _ _ c.if-scope-ge2147483648.false, eq-eqb _ _ c.if-scope-eq1.true) c.answer_from-then-scope-eq1.ensures; claims = forecast_claims }

pub returns-then-scope-eq2 : goal.returns-then-scope-eq2
unfolding forecast_of negative
returns-then-scope-eq2 c =
    record { value = rw (lt-leb _ _ c.if-scope-ge2147483648.false, ne_eqb _ _ c.if-scope-eq1.false, eq-eqb _ _ c.if-scope-eq2.true) c.answer_from-then-scope-eq2.ensures; claims = forecast_claims }

pub returns : goal.returns
unfolding forecast_of negative
returns c =
    record { value = rw (lt-leb _ _ c.if-scope-ge2147483648.false, ne_eqb _ _ c.if-scope-eq1.false, ne_eqb _ _ c.if-scope-eq2.false) c.refusal.ensures; claims = forecast_claims }

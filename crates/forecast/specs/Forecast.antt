-- What a scope and state would answer, from tallies alone (document 02, M-107).
use Rattle.std.specs.Prelude.{ℕ, ◌+◌, cond, ltb, eqb}
use Rattle.journal.specs.declared.counts.Counts.{Counts}
use Rattle.journal.specs.Scope.{negative}
use Rattle.node_area.specs.State.{total, is_within, remaining_of}
use Rattle.nodes.specs.Run.{cut}
use Rattle.tallies.specs.declared.tallies.Tallies.{Tallies}
use Rattle.calls.specs.declared.status.Status.TheVariants.{Done, Again, Parameter}
use Rattle.forecast.specs.declared.forecasting.Forecast.{Forecast}

-- "With -3 the next state is 0."
abbrev pub refused : Forecast
refused = record { status = Parameter; next = 0 }

-- The answer of a list with so many operations of each opcode: the state is 0 or below their number; then the longest run, by the arithmetic of
-- update-nodes on three counts; 1 with the state behind it where operations remain, otherwise 0 with 0.
unfoldable pub answer_from : Counts → ℕ → Forecast
answer_from all state =
    let after = state + total (cut (remaining_of all state)) in
    let more : Forecast = record { status = Again; next = after } in
    let none : Forecast = record { status = Done; next = 0 } in
    cond (is_within state (total all)) (cond (ltb after (total all)) more none) refused

-- "Answer from M-106's tallies alone, for negative scopes, 1 and 2 .. All others get -3."
unfoldable pub forecast_of : Tallies → ℕ → ℕ → Forecast
forecast_of t scope state =
    cond (negative scope) (answer_from t.negative state)
    (cond (eqb scope 1) (answer_from t.first state)
    (cond (eqb scope 2) (answer_from t.second state)
    refused))

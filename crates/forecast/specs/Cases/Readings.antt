-- Forecasts on both sides of each line, in numbers, cited by the contract of `forecast_from`.
use Rattle.std.specs.Prelude.{ℕ, Bool, ◌&&◌, List, [], ◌∷◌, T, eqb}
use Rattle.words.specs.Claims.Cases.{every}
use Rattle.journal.specs.declared.counts.Counts.{Counts}
use Rattle.tallies.specs.declared.tallies.Tallies.{Tallies}
use Rattle.calls.specs.Status.{status_word}
use Rattle.calls.specs.Claims.Terms.{minus}
use Rattle.forecast.specs.Forecast.{forecast_of}

abbrev pub counts : ℕ → ℕ → ℕ → Counts
counts deletes updates additions = record { deletes = deletes; updates = updates; additions = additions }

-- tallies that have the same counts in every row, and different ones
abbrev pub alike : Counts → Tallies
alike c = record { negative = c; first = c; second = c; third = c }

abbrev pub unlike : Tallies
unlike = record { negative = counts 1019 0 0; first = counts 0 1020 0; second = counts 0 0 600; third = counts 9 9 9 }

-- a scope and a state over tallies: the status as its word, and the next state
abbrev pub tells : Tallies → ℕ → ℕ → ℕ → ℕ → Bool
tells t scope state status next = eqb (status_word (forecast_of t scope state).status) status && eqb (forecast_of t scope state).next next

abbrev pub cases : List Bool
cases =
    tells (alike (counts 0 0 0)) 1 0 0 0
    -- 1,018 deletes, and 1,019; all three opcodes
    ∷ tells (alike (counts 1018 0 0)) 1 0 0 0
    ∷ tells (alike (counts 1019 0 0)) 1 0 1 1018
    ∷ tells (alike (counts 1 1014 1)) 1 0 1 1015
    -- each scope by its row
    ∷ tells unlike 0x8000_0000 0 1 1018
    -- all others, scope 3 too
    ∷ tells unlike 3 0 (minus 3) 0
    ∷ []

abbrev pub ForecastReadings : Type 0
ForecastReadings = T (every cases)

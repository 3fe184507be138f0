-- What is claimed of a forecast, cited by the contract of `forecast_from` (document 02, M-107).
use Rattle.std.specs.Prelude.{ℕ, ◌+◌, ◌%◌, ◌≤◌, ◌<◌, ◌≡◌, true, false, cond, List, ◌++◌, length, take, drop, replicate}
use Rattle.words.specs.Numbers.{Bytes, be32, be_bytes}
use Rattle.journal.specs.declared.operation.Operation.{Operation}
use Rattle.journal.specs.Journal.{well_formed}
use Rattle.node_area.specs.State.{is_within}
use Rattle.nodes.specs.Run.{remains, next_state}
use Rattle.nodes.specs.Claims.Longest.{AllOf}
use Rattle.tallies.specs.declared.tallies.Tallies.{Tallies}
use Rattle.tallies.specs.Tallies.{recount_of}
use Rattle.calls.specs.Status.{status_word}
use Rattle.calls.specs.Buffer.{Found, Left, call_of}
use Rattle.calls.specs.Claims.Terms.{minus, Asks, status_of}
use Rattle.calls.specs.Cases.Witnesses.{additions, nodes_call}
use Rattle.forecast.specs.declared.forecasting.Forecast.{Forecast}
use Rattle.forecast.specs.Forecast.{answer_from, forecast_of}
use Rattle.forecast.specs.Cases.Readings.{ForecastReadings}

-- "as the full call would on a good address, zero reserved bytes and the tallied journal": an update-nodes call, whole in its argument buffer, of a
-- scope, with an aligned area inside memory that begins with a state and twelve zero bytes; whatever else it finds
pub record Ordinary (f : Found) (scope state : ℕ) : Type 0 where
  pub whole : 24 ≤ length f.args
  pub asks : Asks 1 2 1 f.args
  pub scope_is : be32 f.args 16 ≡ scope
  pub aligned : be32 f.args 12 % 4096 ≡ 0
  pub inside : be32 f.args 12 + 4096 ≤ length f.memory
  pub begins : take 16 (drop (be32 f.args 12) f.memory) ≡ be_bytes 4 state ++ replicate 12 0
  pub bytes : Bytes f.memory × Bytes f.journal

-- The forecast is the call's answer: its status, and with 0 or 1 the State Variable that the call writes, with -3 it is 0.
pub record AsCalled (f : Found) (x : Left) (told : Forecast) : Type 0 where
  pub status : status_of f.args x ≡ status_word told.status
  pub one_of : (status_word told.status ≤ 1 → ⊥) → status_word told.status ≡ minus 3
  pub next : status_word told.status ≤ 1 → be32 x.memory (be32 f.args 12) ≡ told.next
  pub refused : status_word told.status ≡ minus 3 → told.next ≡ 0

abbrev pub AsTheCall : Type 0
AsTheCall =
    (scope state : ℕ) → (scope ≡ 3 → ⊥) → state < 0x1_0000_0000 → (f : Found) → well_formed f.journal ≡ true → Ordinary f scope state
    → AsCalled f (call_of f) (forecast_of (recount_of f.journal) scope state)

-- Any three counts answer as a list with so many deletes, updates and additions.
pub record AsListed (os : List Operation) (state : ℕ) (told : Forecast) : Type 0 where
  pub outside : is_within state (length os) ≡ false → (status_word told.status ≡ minus 3) × (told.next ≡ 0)
  pub inside : is_within state (length os) ≡ true → (status_word told.status ≡ cond (remains os state) 1 0) × (told.next ≡ next_state os state)

abbrev pub AsTheList : Type 0
AsTheList =
    (ds us adds : List Operation) → AllOf 1 ds → AllOf 2 us → AllOf 3 adds → (state : ℕ)
    → AsListed (ds ++ (us ++ adds)) state (answer_from (record { deletes = length ds; updates = length us; additions = length adds }) state)

-- "for negative scopes, 1 and 2 .. All others get -3", scope 3 too: of any tallies each scope by its row
pub record ByRow (t : Tallies) (state : ℕ) : Type 0 where
  pub negative : (scope : ℕ) → 0x8000_0000 ≤ scope → forecast_of t scope state ≡ answer_from t.negative state
  pub first : forecast_of t 1 state ≡ answer_from t.first state
  pub second : forecast_of t 2 state ≡ answer_from t.second state
  pub others : (scope : ℕ) → scope < 0x8000_0000 → (scope ≡ 1 → ⊥) → (scope ≡ 2 → ⊥)
      → (status_word (forecast_of t scope state).status ≡ minus 3) × ((forecast_of t scope state).next ≡ 0)

abbrev pub EachRow : Type 0
EachRow = (t : Tallies) (state : ℕ) → ByRow t state

-- Calls of which `as_the_call` speaks, one of each status: 510 additions, of which an area holds 509.
pub record Witnessed (state status : ℕ) : Type 0 where
  pub ordinary : Ordinary (nodes_call 0 state) 1 state
  pub gives : status_of (nodes_call 0 state).args (call_of (nodes_call 0 state)) ≡ status

pub record CallWitness : Type 0 where
  pub formed : well_formed additions ≡ true
  pub again : Witnessed 0 1
  pub done : Witnessed 509 0
  pub outside : Witnessed 510 (minus 3)

pub record ForecastClaims : Type 0 where
  pub as_the_call : AsTheCall
  pub witness : CallWitness
  pub each_row : EachRow
  pub as_the_list : AsTheList
  pub readings : ForecastReadings

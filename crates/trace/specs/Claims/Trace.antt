-- What is claimed of the definition of a replay, over every platform: for every way of cutting a trace, of bad records, of differences and of our own traces.
-- Cited by the contracts of `start`, `feed` and `end` of crate `replay`.
use Rattle.std.specs.Prelude.{◌≡◌, true, false, List, ℕ, ◌+◌, length}
use Rattle.records.specs.Cutting.{run, start, fed, fed_all, ended, joined}
use Rattle.trace.specs.declared.report.Report.TheVariants.{Agreed}
use Rattle.trace.specs.Playing.{Platform, State, begin, stopped, compared, step, concluded, replay_of, reader}
use Rattle.trace.specs.Claims.Steps.{EachReplay}
use Rattle.trace.specs.Claims.Recording.{OwnTraceAgrees, AgreedIsOurs, DifferenceTold}
use Rattle.trace.specs.Claims.First.{FirstDifference}
use Rattle.trace.specs.Cases.Trace.{TraceReadings}
use Rattle.trace.specs.Cases.Session.{SessionReadings}
use Rattle.trace.specs.Claims.Came.{AllCame}

-- Bursts, however they are cut and some of them empty, leave what their bytes leave as one burst.
abbrev pub AnyCutting : Type 0
AnyCutting = (p : Platform) (m : List ℕ) (bs : List (List ℕ)) → fed_all (reader p) (start (begin m)) bs ≡ fed (reader p) (start (begin m)) (joined bs)

-- With an end behind them they are the replay of the whole trace: report, memory, registration and reading record.
abbrev pub OverRecords : Type 0
OverRecords = (p : Platform) (m : List ℕ) (bs : List (List ℕ))
    → concluded (ended (reader p) (fed_all (reader p) (start (begin m)) bs)) ≡ replay_of p m (joined bs)

-- Only buffers that are the same agree.
abbrev pub AgreedSame : Type 0
AgreedSame = (calls number : ℕ) (recorded ours : List ℕ) → compared calls recorded ours ≡ Agreed number → (recorded ≡ ours) × (number ≡ calls + 1)

-- After a stop every burst changes nothing.
abbrev pub StopsForGood : Type 0
StopsForGood = (p : Platform) (s : State) (b : List ℕ) → stopped s ≡ true → fed (reader p) (start s) b ≡ start s

-- Every record before a stop is counted, so that the number of a malformed one is its place in the trace, from 1.
abbrev pub RecordsCounted : Type 0
RecordsCounted =
    (p : Platform) (m : List ℕ) (rs : List (List ℕ)) → stopped (run (step p) (begin m) rs) ≡ false → (run (step p) (begin m) rs).records ≡ length rs

pub record TraceClaims : Type 0 where
  pub any_cutting : AnyCutting
  pub over_records : OverRecords
  pub each_replay : EachReplay
  pub agreed_same : AgreedSame
  pub stops_for_good : StopsForGood
  pub records_counted : RecordsCounted
  pub own_trace_agrees : OwnTraceAgrees
  pub difference_told : DifferenceTold
  pub agreed_is_ours : AgreedIsOurs
  pub first_difference : FirstDifference
  pub trace_readings : TraceReadings
  pub session_readings : SessionReadings
  pub all_came : AllCame

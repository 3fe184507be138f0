-- What is claimed of a replay in code, cited by the contracts of `start`, `feed` and `end` (document 02, M-110).
use Rattle.std.specs.Prelude.{◌≡◌, Bool, true, false, List, ℕ, ◌+◌, ◌≤◌, length, is_some}
use Rattle.records.specs.Cutting.{start, ended}
use Rattle.records.specs.Claims.Records.{FedExactly}
use Rattle.inventory.specs.declared.edition.Edition.{Edition}
use Rattle.trace.specs.declared.report.Report.TheVariants.{Agreed, Differs, Malformed}
use Rattle.trace.specs.Playing.{Platform, State, begin, concluded, reader}
use Rattle.trace.specs.Claims.Trace.{TraceClaims}
use Rattle.playing.specs.Lent.{lender}
use Rattle.playing.specs.Claims.Lent.{OursStands, EachLent}
use Rattle.counting.specs.OfTrace.{counter}
use Rattle.replay.specs.Feeding.{standing_of, start_of, end_of}
use Rattle.replay.specs.Claims.Feeding.{Ready}
use Rattle.replay.specs.declared.feeding.Replay.{Replay}

-- where a replay stands after an end
abbrev pub ended_by : Platform → List ℕ → List ℕ → List ℕ → Replay → State
ended_by p held args memory w = concluded (ended (reader p) (standing_of held args memory w))

-- An end tells the report of the replay that ends there, and touches nothing but the report.
abbrev pub EndTells : Type 0
EndTells =
    (p : Platform) (held args memory : List ℕ) (w : Replay) → Ready held args w
    → ((ended_by p held args memory w).report ≡ end_of w.playing.report w.playing.records (is_some w.playing.waiting) w.held)
    × ((ended_by p held args memory w).memory ≡ memory)
    × ((ended_by p held args memory w).registration ≡ w.playing.registration)
    × ((ended_by p held args memory w).reading ≡ w.playing.reading)

-- A start over two buffers with room is the start of the definition, over its edition, and ready for a burst.
abbrev pub StartStands : Type 0
StartStands =
    (held args memory : List ℕ) (e : Edition) → 4104 ≤ length held → 4100 ≤ length args
    → (standing_of held args memory (start_of e) ≡ start (begin memory)) × (Ready held args (start_of e) × ((start_of e).playing.edition ≡ e))

-- A burst from any state, as the records of a trace are replayed, put into the lent argument buffer, and counted.
abbrev pub EachFed : Type 0
EachFed = (p : Platform) → FedExactly (reader p) × (FedExactly (lender p) × FedExactly (counter p))

-- An end inside a record is malformed with that record's number, one that leaves a 32 waiting with the 32's; else what was reported stands.
abbrev pub EndExactly : Type 0
EndExactly = (calls at records held : ℕ) (waits : Bool)
    → (end_of (Agreed calls) records true held ≡ Malformed records) × (end_of (Agreed calls) records false 0 ≡ Agreed calls)
    × (1 ≤ held → end_of (Agreed calls) records false held ≡ Malformed (records + 1))
    × (end_of (Differs calls at) records waits held ≡ Differs calls at) × (end_of (Malformed at) records waits held ≡ Malformed at)

pub record ReplayClaims : Type 0 where
  pub of_traces : TraceClaims
  pub start_stands : StartStands
  pub end_tells : EndTells
  pub ours_stands : OursStands
  pub each_lent : EachLent
  pub each_fed : EachFed
  pub end_exactly : EndExactly

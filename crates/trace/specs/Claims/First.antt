-- A report of a difference names the first (document 02, M-110: "report the number of the first call whose recorded buffer differs from ours in
-- length or any byte, with the first differing offset (the shorter length if they agree so far)").
use Rattle.std.specs.Prelude.{ℕ, ◌+◌, ◌≤◌, ◌<◌, ◌≡◌, true, List, ◌∷◌, ◌++◌, length, take, get_or}
use Rattle.records.specs.Records.{kind_of, records}
use Rattle.records.specs.Cutting.{run}
use Rattle.trace.specs.declared.report.Report.TheVariants.{Agreed, Differs}
use Rattle.trace.specs.Trace.{body_of, is_good}
use Rattle.trace.specs.Playing.{Platform, call, State, begin, called, step, replay_of}

-- Two buffers have the bytes before an offset in common, and differ there: one of them ends, or the bytes are others.
pub record DifferAt (recorded ours : List ℕ) (offset : ℕ) : Type 0 where
  pub same : take offset recorded ≡ take offset ours
  pub in_recorded : offset ≤ length recorded
  pub in_ours : offset ≤ length ours
  pub unlike : offset < length recorded → offset < length ours → get_or recorded offset 0 ≡ get_or ours offset 0 → ⊥
  pub not-all : offset ≡ length recorded → offset ≡ length ours → ⊥

-- The place of a call that differs, among records that come where a replay stands: the records before its 33, its 33, those behind it, and the body of
-- its 32. After the records before it the 32 waits, and so many calls agreed.
pub record Place (p : Platform) (s : State) (rs : List (List ℕ)) (calls offset : ℕ) : Type 0 where
  pub before : List (List ℕ)
  pub recorded : List ℕ
  pub behind : List (List ℕ)
  pub args : List ℕ
  pub there : rs ≡ before ++ (recorded ∷ behind)
  pub waits : (run (step p) s before).waiting ≡ call args
  pub agreed : (run (step p) s before).report ≡ Agreed calls
  pub good : is_good recorded ≡ true
  pub after : kind_of recorded ≡ 33
  pub differ : DifferAt (body_of recorded) (called p (run (step p) s before) args).args offset

-- The call that a report names is the one behind all that agreed, and differs where the report says.
abbrev pub FirstDifference : Type 0
FirstDifference = (p : Platform) (m trace : List ℕ) (number offset : ℕ) → (replay_of p m trace).report ≡ Differs number offset
    → (calls : ℕ) × ((number ≡ calls + 1) × Place p (begin m) (records trace) calls offset)

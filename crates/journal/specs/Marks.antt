-- Marks that a scan notes, from which the operation due is found without a walk from the journal's start.
use Rattle.std.specs.Prelude.{ℕ, ◌+◌, ◌-◌, ◌/◌, ◌%◌, ◌^◌, ◌≤◌, ◌<◌, ◌≡◌, true, List, [], ◌∷◌, ◌++◌, length, take, drop, All}
use Rattle.records.specs.Records.{records, all_good}
use Rattle.journal.specs.Scope.{Selection}
use Rattle.journal.specs.Journal.{good_record, IsOpcode, entries}
use Rattle.journal.specs.Reportable.{chosen}
use Rattle.journal.specs.declared.marks.Mark.{Mark}
use Rattle.journal.specs.declared.marks.Marks.{Marks}

-- Three counts in one number, 21 bits for each opcode.
abbrev pub count_limit : ℕ
count_limit = 2_097_152

abbrev pub count : ℕ → ℕ → ℕ
count code packed = packed / count_limit ^ (code - 1) % count_limit

-- A scan notes so many marks at most.
abbrev pub mark_limit : ℕ
mark_limit = 64

-- From this place of the journal on, where a record begins, the list of an opcode holds after `skip` operations what it holds of
-- the whole journal from number k on.
pub record Resumes (selection : Selection) (j : List ℕ) (code k at skip : ℕ) : Type 0 where
  pub inside : at ≤ length j
  pub sound : all_good good_record (records j) ≡ true → all_good good_record (records (drop at j)) ≡ true
  pub number : length (chosen selection code (entries j)) + skip ≡ k + length (chosen selection code (entries (drop at j)))
  pub same : drop k (chosen selection code (entries j)) ≡ drop skip (chosen selection code (entries (drop at j)))

-- The marks that were noted, in the order of their places.
abbrev pub listed : Marks → List Mark
listed marks = take marks.noted marks.places

-- A mark is a place and the packed counts of what the selection reports before it. Each mark that was noted resumes the list of every opcode.
pub record Marked (selection : Selection) (j : List ℕ) (marks : Marks) : Type 0 where
  pub few : marks.noted ≤ mark_limit
  pub each : (code : ℕ) → IsOpcode code → All (λ (m : Mark). Resumes selection j code (count code m.counts) m.at 0) (listed marks)

-- the marks after a mark was offered as the next one
pub data Noted (marks : Marks) (m : Mark) (after : Marks) : Type 0 where
  unchanged : after ≡ marks → Noted marks m after
  added : after.noted ≡ marks.noted + 1 → marks.noted < mark_limit → listed after ≡ listed marks ++ (m ∷ []) → Noted marks m after

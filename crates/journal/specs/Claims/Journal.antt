-- Claims about the journal's rules, cited by the contracts of `scan` of crate `scanning` and of `scope_row`.
use Rattle.std.specs.Prelude.{ℕ, ◌/◌, ◌%◌, ◌≤◌, ◌≡◌, true, List, [], ◌∷◌, ◌++◌, T, length, replicate}
use Rattle.words.specs.Claims.Cases.{Case, yes, no, agree}
use Rattle.words.specs.Claims.Exactly.{Exactly}
use Rattle.words.specs.Claims.Words.{StatedExactly, NumbersExactly, NulExactly}
use Rattle.records.specs.Records.{records, all_good}
use Rattle.records.specs.Claims.Records.{RecordsInTurn}
use Rattle.journal.specs.Journal.{good_record, well_formed}
use Rattle.journal.specs.Scope.{row_of}
use Rattle.journal.specs.Claims.Records.{JournalRecordExactly, ReportableExactly}

-- a record of this length, kind and node type, with an operand 42 and, in eight bytes of operands, a second one
abbrev pub short : ℕ → ℕ → ℕ → List ℕ
short len kind node = len ∷ 0 ∷ kind ∷ 0 ∷ node ∷ 0 ∷ 42 ∷ 0 ∷ 0 ∷ 0 ∷ []

abbrev pub long : ℕ → ℕ → ℕ → List ℕ
long len kind node = short len kind node ++ (5 ∷ 0 ∷ 0 ∷ 16 ∷ [])

-- a record of this length, kind and node type, of the unit 7, with the operand 42
abbrev pub unit : ℕ → ℕ → ℕ → List ℕ
unit len kind node = len ∷ 0 ∷ kind ∷ 0 ∷ node ∷ 0 ∷ 7 ∷ 0 ∷ 0 ∷ 0 ∷ 0 ∷ 0 ∷ 0 ∷ 0 ∷ 42 ∷ 0 ∷ 0 ∷ 0 ∷ []

-- a record of this length and kind, of the phandle 42, with a name of so many letters, and the bytes after it
abbrev pub property : ℕ → ℕ → ℕ → List ℕ → List ℕ
property len kind letters rest = len % 256 ∷ len / 256 ∷ kind ∷ 0 ∷ 42 ∷ 0 ∷ 0 ∷ 0 ∷ (replicate letters 65 ++ rest)

-- journals on both sides of a rule, for a reader to look at; `JournalRecordExactly` and `RecordsInTurn` tell all of them
abbrev pub cases : List (Case (List ℕ))
cases =
    -- "An empty buffer is well formed."
    yes []
    -- kinds 1 to 3, and kind 4 of a unit
    ∷ yes (short 8 1 10 ++ (long 12 3 10 ++ (short 8 2 5 ++ unit 16 4 15)))
    ∷ no (short 8 3 10)
    ∷ no (short 8 1 15)
    ∷ no (unit 16 4 14)
    -- kinds 5 and 6
    ∷ yes (property 11 5 1 (0 ∷ 0 ∷ 7 ∷ 0 ∷ []) ++ property 8 6 1 (0 ∷ []))
    ∷ no (property 9 6 1 (0 ∷ 7 ∷ []))
    ∷ yes (property 38 5 31 (0 ∷ []))
    ∷ no (property 39 5 32 (0 ∷ []))
    -- "Records fill the buffer exactly."
    ∷ no (short 8 1 10 ++ (8 ∷ []))
    ∷ []

abbrev pub WellFormedCases : Type 0
WellFormedCases = T (agree well_formed cases)

-- 01: "Journal, at most 1,048,576 bytes", ".. or an oversized buffer is malformed."
abbrev pub WellFormedExactly : Type 0
WellFormedExactly = (j : List ℕ) → Exactly (well_formed j ≡ true) ((length j ≤ 1_048_576) × (all_good good_record (records j) ≡ true))

-- 01, "What each scope reports": the sets of each row by node type from 0 to 16, where 2 is updates and 7 all three opcodes
abbrev pub ScopeRows : Type 0
ScopeRows = ((scope : ℕ) → 0x8000_0000 ≤ scope → row_of scope ≡ 0 ∷ 0 ∷ 0 ∷ 0 ∷ 0 ∷ 2 ∷ 0 ∷ 0 ∷ 2 ∷ 2 ∷ 7 ∷ 7 ∷ 7 ∷ 7 ∷ 7 ∷ 0 ∷ 0 ∷ [])
    × (row_of 1 ≡ 0 ∷ 2 ∷ 2 ∷ 2 ∷ 2 ∷ 2 ∷ 7 ∷ 2 ∷ 2 ∷ 7 ∷ 7 ∷ 7 ∷ 7 ∷ 7 ∷ 7 ∷ 0 ∷ 0 ∷ [])
    × (row_of 2 ≡ 0 ∷ 0 ∷ 0 ∷ 2 ∷ 0 ∷ 0 ∷ 0 ∷ 0 ∷ 0 ∷ 0 ∷ 0 ∷ 0 ∷ 0 ∷ 0 ∷ 0 ∷ 0 ∷ 0 ∷ [])
    × (row_of 3 ≡ 0 ∷ 0 ∷ 0 ∷ 0 ∷ 0 ∷ 0 ∷ 0 ∷ 0 ∷ 0 ∷ 0 ∷ 0 ∷ 0 ∷ 0 ∷ 0 ∷ 0 ∷ 2 ∷ 2 ∷ [])

-- all that is claimed of a journal, and what it rests on
pub record JournalClaims : Type 0 where
  pub stated : StatedExactly
  pub numbers : NumbersExactly
  pub names : NulExactly
  pub in_turn : RecordsInTurn
  pub good_record_claim : JournalRecordExactly
  pub well_formed_claim : WellFormedExactly
  pub reported : ReportableExactly
  pub scope_rows : ScopeRows
  pub cases : WellFormedCases

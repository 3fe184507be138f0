-- What is claimed of the counts of a call, cited by the contract of `count_call`.
use Rattle.std.specs.Prelude.{ℕ, ◌+◌, ◌*◌, ◌-◌, ◌≤◌, ◌<◌, ◌≡◌, Bool, true, false, ◌&&◌, List, [], ◌∷◌, ◌++◌, ◌⊎◌, T, leb, eqb, length, set, replicate}
use Rattle.words.specs.Claims.Cases.{same, every}
use Rattle.words.specs.Numbers.{Bytes, be32, be64, word_bytes}
use Rattle.words.specs.Reading.{read}
use Rattle.journal.specs.declared.operation.Operation.{Operation}
use Rattle.journal.specs.Scope.{selection_of}
use Rattle.journal.specs.Reportable.{reportable}
use Rattle.node_area.specs.Reading.{reading}
use Rattle.nodes.specs.Run.{cost, run}
use Rattle.calls.specs.declared.status.Number.{Number}
use Rattle.calls.specs.declared.status.Number.TheVariants.{Given, Short}
use Rattle.calls.specs.declared.status.Status.{Status}
use Rattle.calls.specs.declared.status.Status.TheVariants.{Done, Again, Malformed, Parameter, Changed, AlreadyRegistered, DumpActive}
use Rattle.calls.specs.Status.{is_given, status_word}
use Rattle.calls.specs.Lent.{part_at}
use Rattle.calls.specs.Buffer.{token, input, status_at, is_nodes, Found, call_of, answered}
use Rattle.calls.specs.Claims.Terms.{minus}
use Rattle.counting.specs.declared.counts.Counts.{Counts}
use Rattle.counting.specs.Area.{tally_of}
use Rattle.counting.specs.Counts.{no_counts, counted_in, handed_out, counted}

-- An answered update-nodes call counts the operations that its area reads as.
abbrev pub OperationsRead : Type 0
OperationsRead =
    (status : ℕ) (args memory : List ℕ) (os : List Operation) → is_nodes args ≡ true → leb status 1 ≡ true
    → reading (input args 1) (part_at memory (input args 0) 4096) ≡ read os → (handed_out status args memory).operations ≡ length os

-- "words available (1,019 for each answered call)": an area that is read never uses more.
abbrev pub UsedWithin : Type 0
UsedWithin = (scope : ℕ) (area : List ℕ) (os : List Operation) → reading scope area ≡ read os → (tally_of scope area).words ≤ 1019

-- An answered update-nodes call counts the operations that it hands out, and the words that they cost.
abbrev pub RunCounted : Type 0
RunCounted =
    (f : Found) → Bytes f.memory → Bytes f.journal → is_nodes f.args ≡ true → answered f.args (call_of f) ≡ true
    → let area = part_at f.memory (input f.args 0) 4096 in
    let handed = run (reportable (selection_of (input f.args 1) (be64 area 4)) f.journal) (be32 area 0) in
    handed_out (be32 (call_of f).args (status_at f.args)) (call_of f).args (call_of f).memory ≡ record { operations = length handed; words = cost handed }

-- the place of a status among the seven of a token
abbrev pub place_in : Status → ℕ
place_in Done = 0
place_in Again = 1
place_in Malformed = 2
place_in Parameter = 3
place_in Changed = 4
place_in AlreadyRegistered = 5
place_in DumpActive = 6

-- "for each token 1 to 4, calls with argument answer 0 and each status's count": one row grows by one, that of the call's token and status, and what
-- the call handed
-- out is added.
-- DECISIONS: "Other tokens and answers 10 to 12 appear nowhere."
abbrev pub EachCallCounted : Type 0
EachCallCounted =
    (f : Found) (c : Counts) →
    let x = call_of f in
    let t = token f.args in
    let after = counted c x.number x.args x.memory in
    (is_given x.number ≡ true → 1 ≤ t → t ≤ 4
    → (s : Status) × ((be32 x.args (status_at f.args) ≡ status_word s)
    × (after ≡ counted_in c (7 * (t - 1) + place_in s) (handed_out (status_word s) x.args x.memory))))
    × ((is_given x.number ≡ false) ⊎ ((t ≡ 0) ⊎ (4 < t)) → after ≡ c)

-- ---- calls in words

-- an area with two deletes and an addition: three operations, six words
abbrev pub memory : List ℕ
memory = word_bytes (0 ∷ 0 ∷ 0 ∷ 0 ∷ 0x0100_0002 ∷ 5 ∷ 6 ∷ 0x0300_0002 ∷ 7 ∷ 8 ∷ 0 ∷ []) ++ replicate 4052 7

abbrev pub left : Number → List ℕ → Counts
left number args = counted no_counts number (word_bytes args) memory

-- nothing is counted
abbrev pub none : Counts → Bool
none c = same c.rows (replicate 28 0) && (eqb c.operations 0 && eqb c.used 0)

-- one call in a row, with operations and words
abbrev pub one : ℕ → ℕ → ℕ → Counts → Bool
one row operations used c = same c.rows (set (replicate 28 0) row 1) && (eqb c.operations operations && eqb c.used used)

abbrev pub cases : List Bool
cases =
    -- update-nodes by each status: a refused call hands out nothing, whatever stands in the area
    one 0 3 6 (left Given (1 ∷ 2 ∷ 1 ∷ 0 ∷ 1 ∷ 0 ∷ []))
    ∷ one 1 3 6 (left Given (1 ∷ 2 ∷ 1 ∷ 0 ∷ 1 ∷ 1 ∷ []))
    ∷ one 2 0 0 (left Given (1 ∷ 2 ∷ 1 ∷ 0 ∷ 1 ∷ minus 1 ∷ []))
    ∷ one 3 0 0 (left Given (1 ∷ 2 ∷ 1 ∷ 0 ∷ 1 ∷ minus 3 ∷ []))
    ∷ one 4 0 0 (left Given (1 ∷ 2 ∷ 1 ∷ 0 ∷ 1 ∷ minus 4 ∷ []))
    ∷ one 5 0 0 (left Given (1 ∷ 2 ∷ 1 ∷ 0 ∷ 1 ∷ minus 9 ∷ []))
    ∷ one 6 0 0 (left Given (1 ∷ 2 ∷ 1 ∷ 0 ∷ 1 ∷ minus 10 ∷ []))
    -- another token hands out no operations
    ∷ one 21 0 0 (left Given (4 ∷ 2 ∷ 1 ∷ 0 ∷ 1 ∷ 0 ∷ []))
    -- DECISIONS: "Other tokens and answers 10 to 12 appear nowhere."
    ∷ none (left Given (5 ∷ 2 ∷ 1 ∷ 0 ∷ 1 ∷ minus 3 ∷ []))
    ∷ none (left Short (1 ∷ 2 ∷ 1 ∷ 0 ∷ 1 ∷ 0 ∷ []))
    ∷ []

abbrev pub CountReadings : Type 0
CountReadings = T (every cases)

pub record CountClaims : Type 0 where
  pub operations_read : OperationsRead
  pub used_within : UsedWithin
  pub run_counted : RunCounted
  pub each_call_counted : EachCallCounted
  pub count_readings : CountReadings

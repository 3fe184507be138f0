-- A good record of the journal exactly when, and what one record adds to the list of each opcode (document 01, "Journal and inventory", "What each scope
-- reports"; document 02, M-100 and M-103). Cited by the contract of `scan`.
use Rattle.std.specs.Prelude.{ℕ, ◌≤◌, ◌≡◌, Bool, true, cond, ◌&&◌, ◌||◌, List, [], ◌∷◌, ◌++◌, eqb, length, drop, get_or}
use Rattle.words.specs.Numbers.{le}
use Rattle.words.specs.Claims.Exactly.{Exactly, Named}
use Rattle.records.specs.Records.{whole}
use Rattle.journal.specs.declared.operation.Operation.{Operation}
use Rattle.journal.specs.declared.operation.Operation.TheVariants.{Delete, Update, Add}
use Rattle.journal.specs.Journal.{good_record, entries, well_formed}
use Rattle.journal.specs.Scope.{row_of, selection_of}
use Rattle.journal.specs.Reportable.{chosen, reportable, counts_of}

-- The good records by their kinds, in bytes 2 and 3; the length is in bytes 0 and 1, a node type in bytes 4 and 5. Phandles, drc-indices, unit
-- addresses and values
-- are any.
pub data Good (r : List ℕ) : Type 0 where
  -- "kinds 1 (delete) and 2 (update) hold a two-byte node type and a phandle, length 8", "Node types: 1 root, .. 14 memory-utilization instrumentation."
  kind_1 : le 2 r 2 ≡ 1 → le 2 r 0 ≡ 8 → 1 ≤ le 2 r 4 → le 2 r 4 ≤ 14 → Good r
  kind_2 : le 2 r 2 ≡ 2 → le 2 r 0 ≡ 8 → 1 ≤ le 2 r 4 → le 2 r 4 ≤ 14 → Good r
  -- "kind 3 (add) holds node type, parent phandle and drc-index, length 12"
  kind_3 : le 2 r 2 ≡ 3 → le 2 r 0 ≡ 12 → 1 ≤ le 2 r 4 → le 2 r 4 ≤ 14 → Good r
  -- 02, M-100: "Journal kind 4 holds type, an eight-byte unit address and a phandle, length 16, for these types alone": 15 and 16
  kind_4 : le 2 r 2 ≡ 4 → le 2 r 0 ≡ 16 → 15 ≤ le 2 r 4 → le 2 r 4 ≤ 16 → Good r
  -- 02, M-103: "Journal kind 5 holds a phandle, a name with one NUL and a new value to the record's end, kind 6 a phandle and a deleted property's
  -- name with one
  -- NUL; names have 1 to 31 non-zero bytes, values 0 to 32,768."
  kind_5 : le 2 r 2 ≡ 5 → (name value : List ℕ) → Named 31 (drop 8 r) name value → length value ≤ 32_768 → Good r
  kind_6 : le 2 r 2 ≡ 6 → (name : List ℕ) → Named 31 (drop 8 r) name [] → Good r

-- "Any other kind, length, node type or flag .. is malformed.", of a record that nothing cuts off
abbrev pub JournalRecordExactly : Type 0
JournalRecordExactly = (r : List ℕ) → whole r ≡ true → Exactly (good_record r ≡ true) (Good r)

-- ---- the list of an opcode, for a scope and a unit

abbrev pub list_of : ℕ → ℕ → ℕ → List ℕ → List Operation
list_of scope unit code j = chosen (selection_of scope unit) code (entries j)

-- the row of a scope reports a node type under an opcode: 2 stands for updates and 7 for all three
abbrev pub is_reported : ℕ → ℕ → ℕ → Bool
is_reported scope node code = eqb (get_or (row_of scope) node 0) 7 || (eqb (get_or (row_of scope) node 0) 2 && eqb code 2)

-- an operation, if the kind is this one, its opcode is asked for, and a test holds
abbrev pub one_if : Bool → Operation → List Operation
one_if holds o = cond holds (o ∷ []) []

-- What one record adds: kinds 1 to 3 by their node type, kind 4 as an update of its unit in scope 3, kinds 5 and 6 nothing.
abbrev pub adds : ℕ → ℕ → ℕ → List ℕ → List Operation
adds scope unit code r =
    one_if (eqb (le 2 r 2) 1 && (eqb code 1 && is_reported scope (le 2 r 4) 1)) (Delete (le 4 r 6))
    ++ (one_if (eqb (le 2 r 2) 2 && (eqb code 2 && is_reported scope (le 2 r 4) 2)) (Update (le 4 r 6))
    ++ (one_if (eqb (le 2 r 2) 3 && (eqb code 3 && is_reported scope (le 2 r 4) 3)) (Add (le 4 r 6) (le 4 r 10))
    ++ one_if (eqb (le 2 r 2) 4 && (eqb code 2 && (eqb scope 3 && eqb (le 8 r 6) unit))) (Update (le 4 r 14))))

pub record ReportableExactly : Type 0 where
  -- "The reportable list is all reportable deletes in journal order, then updates, then additions."
  pub parts : (scope unit : ℕ) (j : List ℕ) → reportable (selection_of scope unit) j
      ≡ list_of scope unit 1 j ++ (list_of scope unit 2 j ++ list_of scope unit 3 j)
  -- how many there are of each opcode
  pub counts : (scope unit : ℕ) (j : List ℕ)
      → counts_of (selection_of scope unit) j ≡ record {
        deletes = length (list_of scope unit 1 j);
        updates = length (list_of scope unit 2 j);
        additions = length (list_of scope unit 3 j);
      }
  pub empty : (scope unit code : ℕ) → list_of scope unit code [] ≡ []
  -- "Equal records stay as separate operations."
  pub each : (scope unit code : ℕ) (r rest : List ℕ) → whole r ≡ true → good_record r ≡ true
      → list_of scope unit code (r ++ rest) ≡ adds scope unit code r ++ list_of scope unit code rest
  -- of two journals end to end, one list after the other
  pub end_to_end : (scope unit code : ℕ) (a b : List ℕ) → well_formed a ≡ true
      → list_of scope unit code (a ++ b) ≡ list_of scope unit code a ++ list_of scope unit code b

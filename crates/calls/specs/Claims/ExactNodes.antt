-- Demand 2 of update-nodes: each status exactly when, and what an answer leaves (document 01, "update-nodes").
use Rattle.std.specs.Prelude.{ℕ, ◌+◌, ◌*◌, ◌%◌, ◌≤◌, ◌<◌, ◌≡◌, true, false, cond, List, ◌⊎◌, ltb, length, drop, get_or}
use Rattle.std.proofs.Math.Seq.{slice}
use Rattle.words.specs.Claims.Exactly.{Exactly}
use Rattle.words.specs.Numbers.{Bytes, be32, be64, zeros}
use Rattle.journal.specs.declared.operation.Operation.{Operation}
use Rattle.journal.specs.Journal.{well_formed}
use Rattle.journal.specs.Scope.{units_of, selection_of}
use Rattle.journal.specs.Reportable.{reportable}
use Rattle.nodes.specs.Run.{cost, run}
use Rattle.nodes.specs.Claims.Longest.{LongestOf}
use Rattle.nodes.specs.Area.{written}
use Rattle.words.specs.Reading.{read}
use Rattle.node_area.specs.Reading.{reading}
use Rattle.calls.specs.Lent.{part_at, with_part}
use Rattle.calls.specs.Claims.Terms.{minus}

-- 01: "Checks in order: address a multiple of 4,096 and the area inside memory (-3); scope (-3);"
pub record Asked (m : List ℕ) (address scope : ℕ) : Type 0 where
  pub aligned : address % 4096 ≡ 0
  pub inside : address + 4096 ≤ length m
  pub scoped : (0x8000_0000 ≤ scope) ⊎ ((scope ≡ 1) ⊎ ((scope ≡ 2) ⊎ (scope ≡ 3)))

-- the reserved bytes are zero: 4 to 15, in scope 3 only 12 to 15
pub record Clear (scope : ℕ) (area : List ℕ) : Type 0 where
  pub other : (scope ≡ 3 → ⊥) → zeros (slice 4 16 area) ≡ true
  pub unit : scope ≡ 3 → zeros (slice 12 16 area) ≡ true

-- "journal (-1); bytes 4 to 15 of the area zero (-3); state (-3). The state is 0, or above 0 and below the length of the reportable list."
-- 02, M-100: "in scope 3 only bytes 12 to 15 are tested for zero"
pub record Passed (scope : ℕ) (j area : List ℕ) (os : List Operation) : Type 0 where
  pub formed : well_formed j ≡ true
  pub clear : Clear scope area
  pub begun : (be32 area 0 ≡ 0) ⊎ (be32 area 0 < length os)

-- What an answer leaves in its area, when it hands out a run of operations from a state on.
pub record Answer (scope : ℕ) (area left : List ℕ) (os handed : List Operation) (state status : ℕ) : Type 0 where
  -- "The call hands out the longest run of operations, from the state on, that fits 1,019 words."
  pub longest : LongestOf (drop state os) handed
  -- "Status 1 when operations remain, otherwise 0."
  pub remaining : status ≡ cond (ltb (state + length handed) (length os)) 1 0
  -- "new state (0 when nothing remains)"
  pub new_state : be32 left 0 ≡ cond (ltb (state + length handed) (length os)) (state + length handed) 0
  -- "twelve zero bytes"; 02, M-100: "a continuation must name its unit, so we return the address there"
  pub clear : Clear scope left
  pub unit : scope ≡ 3 → be64 left 4 ≡ be64 area 4
  -- "then 0x00000000"
  pub terminator : be32 left (16 + 4 * cost handed) ≡ 0
  -- "Bytes after the terminator stay unchanged."
  pub unchanged : (k : ℕ) → 16 + 4 * cost handed + 4 ≤ k → get_or left k 0 ≡ get_or area k 0
  -- "Reading what was written gives back the same entries."
  pub reads_back : reading scope left ≡ read handed

-- The call at its inputs: its status, and memory before and after it.
pub record ExactNodes (m j : List ℕ) (address scope status : ℕ) (after : List ℕ) : Type 0 where
  pub answered :
      let area = part_at m address 4096 in
      Exactly (status ≤ 1) (Asked m address scope × Passed scope j area (reportable (selection_of scope (be64 area 4)) j))
  pub malformed : Exactly (status ≡ minus 1) (Asked m address scope × (well_formed j ≡ false))
  pub otherwise : (status ≤ 1 → ⊥) → (status ≡ minus 1 → ⊥) → status ≡ minus 3
  pub answers : Bytes m → Bytes j → status ≤ 1 →
      let area = part_at m address 4096 in
      let os = reportable (selection_of scope (be64 area 4)) j in
      Answer scope area (part_at after address 4096) os (run os (be32 area 0)) (be32 area 0) status
  pub memory : status ≤ 1 →
      let area = part_at m address 4096 in
      after ≡ with_part m address 4096 (written (units_of scope (be64 area 4)) area (reportable (selection_of scope (be64 area 4)) j) (be32 area 0))

-- Demand 2 of update-properties: each status exactly when, and what an answer leaves (document 02, M-103).
use Rattle.std.specs.Prelude.{ℕ, ◌+◌, ◌≤◌, ◌≡◌, true, false, cond, List, length, get_or}
use Rattle.std.proofs.Math.Seq.{slice}
use Rattle.words.specs.Claims.Exactly.{Exactly}
use Rattle.words.specs.Numbers.{Bytes, be32, zeros}
use Rattle.words.specs.Reading.{read}
use Rattle.journal.specs.Journal.{well_formed}
use Rattle.property_area.specs.Reading.{reading}
use Rattle.property_area.specs.Area.{written}
use Rattle.properties.specs.Changes.{Change, changes, due_at, is_due, offset_or}
use Rattle.properties.specs.Filling.{Filled, fill, weight, parts}
use Rattle.properties.specs.Claims.Session.{Carried}
use Rattle.calls.specs.Lent.{part_at, with_part}
use Rattle.calls.specs.Claims.Terms.{minus}
use Rattle.calls.specs.Claims.ExactNodes.{Asked}

-- 02: "after update-nodes' checks .., -3 for a phandle that no kind 5 or 6 record carries, non-zero reserved bytes or a state that this node's session never
-- carries". The states that it carries are those of the session that starts at 0.
pub record Passed (j area : List ℕ) (cs : List Change) : Type 0 where
  pub formed : well_formed j ≡ true
  pub clear : zeros (slice 8 16 area) ≡ true
  pub known : is_due cs ≡ true
  pub carried : Carried cs (be32 area 4)

-- What an answer leaves in its area, when this is what it hands out and what is due behind it.
pub record Answer (area left : List ℕ) (handed : Filled) (status : ℕ) : Type 0 where
  -- status 1 while something is due, otherwise 0
  pub remaining : status ≡ cond (is_due handed.due) 1 0
  -- "The phandle and then the state variable head the area", "The state is the journal offset of the record due or of the value byte due, and 0 with status 0."
  pub phandle : be32 left 0 ≡ be32 area 0
  pub new_state : be32 left 4 ≡ offset_or 0 handed.due
  pub clear : zeros (slice 8 16 left) ≡ true
  -- 001: "Number of properties reported in the work area"
  pub number : be32 left 16 ≡ length handed.pieces
  -- "later bytes stay"
  pub unchanged : (k : ℕ) → 20 + weight (parts handed.pieces) ≤ k → get_or left k 0 ≡ get_or area k 0
  -- "Reading what was written gives back the same entries."
  pub reads_back : reading left ≡ read handed.pieces

-- The call at its inputs: its status, and memory before and after it. The scope chooses no property.
pub record ExactProperties (m j : List ℕ) (address scope status : ℕ) (after : List ℕ) : Type 0 where
  pub answered :
      let area = part_at m address 4096 in
      Exactly (status ≤ 1) (Asked m address scope × Passed j area (changes (be32 area 0) j))
  pub malformed : Exactly (status ≡ minus 1) (Asked m address scope × (well_formed j ≡ false))
  pub otherwise : (status ≤ 1 → ⊥) → (status ≡ minus 1 → ⊥) → status ≡ minus 3
  -- "A call hands out all that fits" 4,076 bytes behind the head
  pub answers : Bytes m → Bytes j → status ≤ 1 →
      let area = part_at m address 4096 in
      Answer area (part_at after address 4096) (fill 4076 (due_at (be32 area 4) (changes (be32 area 0) j))) status
  pub memory : status ≤ 1 →
      let area = part_at m address 4096 in
      let handed = fill 4076 (due_at (be32 area 4) (changes (be32 area 0) j)) in
      after ≡ with_part m address 4096 (written area (be32 area 0) (offset_or 0 handed.due) handed.pieces)

-- Demand 2 of get-indices: each status exactly when, and what a call leaves in its area and of the reading record (document 01, "get-indices";
-- document 02, M-105).
use Rattle.std.specs.Prelude.{ℕ, ◌+◌, ◌-◌, ◌≤◌, ◌≡◌, true, false, cond, List, ◌⊎◌, ltb, length, take, drop, get_or}
use Rattle.words.specs.Claims.Exactly.{Exactly}
use Rattle.words.specs.Numbers.{Bytes, be32}
use Rattle.inventory.specs.Inventory.{well_formed}
use Rattle.inventory.specs.Listing.{Entry, listed}
use Rattle.indices.specs.Area.{run, written}
use Rattle.indices.specs.Claims.Longest.{taken, LongestOf}
use Rattle.words.specs.Reading.{read}
use Rattle.indices.specs.Reading.{reading}
use Rattle.calls.specs.declared.reading_record.ReadingRecord.{ReadingRecord}
use Rattle.calls.specs.Lent.{part_at, with_part}
use Rattle.calls.specs.Claims.Terms.{minus, naming}

-- 01: "Order: flag; type not 9001, 9002, 9003 for indicators nor 9003 for sensors; size at least 4 and address + size at most 2^32 and inside
-- memory; all -3."
pub record Asked (m : List ℕ) (flag type address size : ℕ) : Type 0 where
  pub flagged : flag ≤ 1
  pub typed : type ≡ 9003 → ⊥
  pub typed_indicator : flag ≡ 0 → (type ≡ 9001 → ⊥) × (type ≡ 9002 → ⊥)
  pub large : 4 ≤ size
  pub below : address + size ≤ 0x1_0000_0000
  pub inside : address + size ≤ length m

-- 02, M-105: "-3 when flag, type or number differ from the record"; "Starting Number 1 always begins afresh."
abbrev pub Named : ReadingRecord → ℕ → ℕ → ℕ → Type 0
Named r flag type number = (number ≡ 1 → ⊥) → (flag ≡ r.flag) × ((type ≡ r.item_type) × (number ≡ r.number.0))

-- "-4 when the edition differs"
abbrev pub Current : ReadingRecord → ℕ → ℕ → Type 0
Current r edition number = (number ≡ 1 → ⊥) → edition ≡ r.edition.0

-- "Then inventory (-1). Then: some entry of this flag and type exists; Starting Number from 1 to the number of entries, unsigned; the entry due
-- fits; all -3."
pub record Passed (i : List ℕ) (es : List Entry) (size number : ℕ) : Type 0 where
  pub formed : well_formed i ≡ true
  pub listed : 1 ≤ length es
  pub from_one : 1 ≤ number
  pub to_last : number ≤ length es
  pub due : 4 + taken (take 1 (drop (number - 1) es)) ≤ size

-- What an answer leaves in its area, and gives as the Next Starting Number, when it hands out a run of entries from a number on.
pub record Answer (area left : List ℕ) (es handed : List Entry) (size number status next : ℕ) : Type 0 where
  -- "The longest fitting run is returned, never zero entries"
  pub longest : LongestOf size (drop (number - 1) es) handed
  pub some : 1 ≤ length handed
  -- "Status 1 with the next number, or 0 with 1."
  pub remaining : status ≡ cond (ltb (number - 1 + length handed) (length es)) 1 0
  pub next_number_claim : next ≡ cond (ltb (number - 1 + length handed) (length es)) (number + length handed) 1
  -- "The area holds the count"
  pub count : be32 left 0 ≡ length handed
  -- "later bytes stay unchanged"
  pub unchanged : (k : ℕ) → 4 + taken handed ≤ k → get_or left k 0 ≡ get_or area k 0
  -- "Reading what was written gives back the same entries."
  pub reads_back : reading left ≡ read handed

-- What a call makes of the record.
pub record Recorded (r : ReadingRecord) (flag type edition status next : ℕ) (after : ReadingRecord) : Type 0 where
  -- "an unfinished reading names the first entry not yet handed out"
  pub names : status ≡ 1 → after ≡ naming flag type next edition
  -- "-4 clears it, as does status 0"
  pub cleared : (status ≡ 0) ⊎ (status ≡ minus 4) → after ≡ naming 0 0 1 0
  -- "A refused call keeps the record"
  pub kept : (status ≤ 1 → ⊥) → (status ≡ minus 4 → ⊥) → after ≡ r

-- The call at its inputs, over an edition and a record: its status and number, and memory and the record afterwards.
pub record ExactIndices (m i : List ℕ) (edition : ℕ) (r : ReadingRecord) (flag type address size number status next : ℕ)
    (after : List ℕ) (then : ReadingRecord) : Type 0 where
  pub answered : Exactly (status ≤ 1) (Asked m flag type address size
      × (Named r flag type number × (Current r edition number × Passed i (listed flag type i) size number)))
  pub changed : Exactly (status ≡ minus 4) (Asked m flag type address size × (Named r flag type number × (Current r edition number → ⊥)))
  pub malformed : Exactly (status ≡ minus 1)
      (Asked m flag type address size × (Named r flag type number × (Current r edition number × (well_formed i ≡ false))))
  pub otherwise : (status ≤ 1 → ⊥) → (status ≡ minus 4 → ⊥) → (status ≡ minus 1 → ⊥) → status ≡ minus 3
  pub answers : Bytes i → status ≤ 1 →
      let es = listed flag type i in
      Answer (part_at m address size) (part_at after address size) es (run size number es) size number status next
  pub memory : status ≤ 1 → after ≡ with_part m address size (written (part_at m address size) (run size number (listed flag type i)))
  pub recorded : Recorded r flag type edition status next then

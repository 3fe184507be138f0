-- What reading a property area gives, exactly when: the head, then one property after the other (document 02, M-103). Cited by the contract of `check_area`.
use Rattle.std.specs.Prelude.{ℕ, suc, ◌+◌, ◌-◌, ◌<◌, ◌≤◌, ◌≡◌, true, false, List, [], ◌∷◌, ltb, eqb, length, take, drop, get_or}
use Rattle.words.specs.Numbers.{be}
use Rattle.words.specs.Claims.Exactly.{Named}
use Rattle.words.specs.Reading.{Reading, read, Refuses, joined}
use Rattle.words.specs.Claims.Words.{JoinedExactly}
use Rattle.property_area.specs.declared.reading.Refusal.{Refusal}
use Rattle.property_area.specs.Piece.{Piece, descriptor_of}
use Rattle.property_area.specs.Reading.{refusal_number, read_from, reading}

-- The bytes of value that follow a descriptor. 001: "0x80000000 The property is to be deleted no value follows", "Other positive values are the length (M)",
-- "Other negative values are the twos complement of the length (M)"
pub record Follow (descriptor n : ℕ) : Type 0 where
  pub deleted : descriptor ≡ 0x8000_0000 → n ≡ 0
  pub positive : descriptor < 0x8000_0000 → n ≡ descriptor
  pub negative : 0x8000_0000 < descriptor → n ≡ 0x1_0000_0000 - descriptor

-- what is told of a property: a part of its value is told by a negative descriptor
abbrev pub told : List ℕ → ℕ → List ℕ → Piece
told name descriptor value =
    record { part = record { name = name; deleted = eqb descriptor 0x8000_0000; value = value }; more = ltb 0x8000_0000 descriptor }

-- A property at a byte offset with `left` properties after it; `x` is the reading from it on. "names have 1 to 31 non-zero bytes"
pub record PropertyExactly (area : List ℕ) (at left : ℕ) (x : Reading Piece Refusal) : Type 0 where
  -- "42 not a name with its NUL"
  pub unnamed : ((name rest : List ℕ) → Named 31 (drop at area) name rest → ⊥) → Refuses refusal_number x 42 at
  -- "43 descriptor or value past the end"
  pub no_descriptor : (name rest : List ℕ) → Named 31 (drop at area) name rest → length rest < 4 → Refuses refusal_number x 43 at
  pub cut_off : (name rest : List ℕ) (n : ℕ) → Named 31 (drop at area) name rest → 4 ≤ length rest → Follow (be 4 rest 0) n → length rest < 4 + n
      → Refuses refusal_number x 43 at
  pub property : (name rest : List ℕ) (n : ℕ) → Named 31 (drop at area) name rest → Follow (be 4 rest 0) n → 4 + n ≤ length rest
      → x ≡ joined (read (told name (be 4 rest 0) (take n (drop 4 rest)) ∷ [])) (read_from left area (at + (length name + 5 + n)))

-- 001: "0x80000000 The property is to be deleted no value follows"; a whole value by its length, a part of one by the twos complement of it
pub record DescriptorExactly (p : Piece) : Type 0 where
  pub deleted : p.part.deleted ≡ true → descriptor_of p ≡ 0x8000_0000
  pub whole : p.part.deleted ≡ false → p.more ≡ false → descriptor_of p ≡ length p.part.value
  pub divided : p.part.deleted ≡ false → p.more ≡ true → descriptor_of p ≡ 0x1_0000_0000 - length p.part.value

pub record PropertyReaderExactly : Type 0 where
  pub descriptor : (p : Piece) → DescriptorExactly p
  pub in_turn : JoinedExactly Piece Refusal
  -- "40 not 4,096 bytes (0)"
  pub size : (area : List ℕ) → (length area ≡ 4096 → ⊥) → Refuses refusal_number (reading area) 40 0
  -- "41 bytes 8 to 15 not zero (8)"
  pub reserved : (area : List ℕ) → length area ≡ 4096 → (k : ℕ) → 8 ≤ k → k < 16 → (get_or area k 0 ≡ 0 → ⊥) → Refuses refusal_number (reading area) 41 8
  -- 001: "Number of properties reported in the work area", in the word after the head of sixteen bytes; "then at each property's offset"
  pub properties : (area : List ℕ) → length area ≡ 4096 → ((k : ℕ) → 8 ≤ k → k < 16 → get_or area k 0 ≡ 0) → reading area ≡ read_from (be 4 area 16) area 20
  pub none : (area : List ℕ) (at : ℕ) → read_from 0 area at ≡ read []
  pub each : (area : List ℕ) (at left : ℕ) → PropertyExactly area at left (read_from (suc left) area at)

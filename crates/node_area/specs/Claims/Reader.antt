-- What reading a node area gives, exactly when: the head, then one operator after the other (document 01, "Readers"). Cited by the contract of `check_area`.
use Rattle.std.specs.Prelude.{ℕ, ◌+◌, ◌*◌, ◌%◌, ◌<◌, ◌≤◌, ◌≡◌, cond, List, [], ◌∷◌, map, ◌⊎◌, eqb, length, take, drop, get_or}
use Rattle.words.specs.Numbers.{words}
use Rattle.words.specs.Reading.{Reading, read, Refuses, joined}
use Rattle.words.specs.Claims.Words.{JoinedExactly}
use Rattle.journal.specs.declared.operation.Operation.{Operation}
use Rattle.journal.specs.declared.operation.Operation.TheVariants.{Delete, Update, Add}
use Rattle.node_area.specs.declared.reading.Refusal.{Refusal}
use Rattle.node_area.specs.Reading.{refusal_number, verdict, operations_at, read_by, reading}

-- The reading of words from byte offset `at` on, of which the first is an operator; `last` is the opcode of the last operator before it that has operands.
abbrev pub reading_from : ℕ → ℕ → List ℕ → Reading Operation Refusal
reading_from last at ws = read_by (verdict 0 at last ws) (operations_at ws 0 0)

-- 01: "An operation is an opcode (1 delete, 2 update, 3 add) with its operands: the phandle, or for an addition the parent phandle and the drc-index."
abbrev pub additions : List ℕ → List Operation
additions [] = []
additions (p ∷ []) = []
additions (p ∷ d ∷ ws) = Add p d ∷ additions ws

abbrev pub operations_of : ℕ → List ℕ → List Operation
operations_of code operands = cond (eqb code 1) (map Delete operands) (cond (eqb code 2) (map Update operands) (additions operands))

-- what 22, 25 and 26 leave: at least one operand, an opcode of 1 to 3, an even count for 3, and no opcode lower than an earlier one
pub record Sound (last code count : ℕ) : Type 0 where
  pub some : 1 ≤ count
  pub low : 1 ≤ code
  pub high : code ≤ 3
  pub even : code ≡ 3 → count % 2 ≡ 0
  pub ordered : last ≤ code

-- 01: "An operator is the opcode in the high byte and the number of operand words in the low three bytes". `x` is the reading from it on, at byte offset `at`.
pub record OperatorExactly (last at code count : ℕ) (ws : List ℕ) (x : Reading Operation Refusal) : Type 0 where
  -- 02, M-101: "A non-zero word whose low three bytes are zero is passed over whatever its opcode, and takes no part in the order test."
  pub empty : 1 ≤ code → count ≡ 0 → x ≡ reading_from last (at + 4) ws
  -- "22 opcode not 1 to 3"
  pub opcode : 1 ≤ count → (code ≡ 0) ⊎ (3 < code) → Refuses refusal_number x 22 at
  -- "25 odd count for opcode 3"
  pub odd : code ≡ 3 → count % 2 ≡ 1 → Refuses refusal_number x 25 at
  -- "26 opcode lower than an earlier one"
  pub order : 1 ≤ count → 1 ≤ code → code ≤ 3 → (code ≡ 3 → count % 2 ≡ 0) → code < last → Refuses refusal_number x 26 at
  -- "24 operands past the end"
  pub past : Sound last code count → length ws < count → Refuses refusal_number x 24 at
  pub operations : Sound last code count → count ≤ length ws
      → x ≡ joined (read (operations_of code (take count ws))) (reading_from code (at + 4 + 4 * count) (drop count ws))

-- the first byte that is tested for zero; 02, M-100: "in scope 3 only bytes 12 to 15"
pub record TestedFrom (scope from : ℕ) : Type 0 where
  pub unit : scope ≡ 3 → from ≡ 12
  pub other : (scope ≡ 3 → ⊥) → from ≡ 4

pub record NodeReaderExactly : Type 0 where
  pub in_turn : JoinedExactly Operation Refusal
  -- "20 not 4,096 bytes (offset 0)"
  pub size : (scope : ℕ) (area : List ℕ) → (length area ≡ 4096 → ⊥) → Refuses refusal_number (reading scope area) 20 0
  -- "21 bytes 4 to 15 not zero (offset 4)"; 02, M-100: "(21 at offset 12)"
  pub reserved : (scope from : ℕ) (area : List ℕ) → TestedFrom scope from → length area ≡ 4096
      → (k : ℕ) → from ≤ k → k < 16 → (get_or area k 0 ≡ 0 → ⊥) → Refuses refusal_number (reading scope area) 21 from
  -- "Then operators from byte 16"
  pub operators : (scope from : ℕ) (area : List ℕ) → TestedFrom scope from → length area ≡ 4096
      → ((k : ℕ) → from ≤ k → k < 16 → get_or area k 0 ≡ 0) → reading scope area ≡ reading_from 0 16 (drop 4 (words area))
  -- "word zero ends the list"
  pub terminator : (last at : ℕ) (ws : List ℕ) → reading_from last at (0 ∷ ws) ≡ read []
  -- "27 the area ends without a terminator (offset 4096)"
  pub unterminated : (last at : ℕ) → Refuses refusal_number (reading_from last at []) 27 4096
  pub operator : (last at code count : ℕ) (ws : List ℕ) → count < 0x0100_0000
      → OperatorExactly last at code count ws (reading_from last at ((code * 0x0100_0000 + count) ∷ ws))

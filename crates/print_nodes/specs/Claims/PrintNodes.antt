-- What the printing program writes of each area, in bytes (document 01, "Readings on both sides of the lines"; document 02, M-100). Cited by the contract
-- of `print_area`.
use Rattle.std.specs.Prelude.{ℕ, ◌<◌, ◌≡◌, List, [], ◌∷◌, ◌++◌, length, take}
use Rattle.words.specs.Numbers.{be}
use Rattle.words.specs.Reading.{read, Refuses}
use Rattle.words.specs.Claims.Words.{NumbersExactly, ZerosExactly}
use Rattle.journal.specs.declared.operation.Operation.{Operation}
use Rattle.journal.specs.declared.operation.Operation.TheVariants.{Delete, Update, Add}
use Rattle.node_area.specs.Reading.{reading, refusal_number}
use Rattle.node_area.specs.Claims.Reader.{NodeReaderExactly}
use Rattle.printing.specs.Text.{decimal, hex_digits}
use Rattle.printing.specs.Claims.Printing.{DigitsExactly}
use Rattle.print_nodes.specs.Text.{scope_of, unit_line, lines, text}

pub record TextExactly : Type 0 where
  -- `state 0`, a line for each operation, `end 3`; 02, M-100: in scope 3 the unit after the state
  pub area : (scope : ℕ) (input : List ℕ) (os : List Operation) → reading scope input ≡ read os → text scope input
      ≡ (115 ∷ 116 ∷ 97 ∷ 116 ∷ 101 ∷ 32 ∷ []) ++ (decimal (be 4 input 0) ++ (10 ∷ []))
      ++ (unit_line scope input ++ (lines os ++ ((101 ∷ 110 ∷ 100 ∷ 32 ∷ []) ++ (decimal (length os) ++ (10 ∷ [])))))
  pub unit : (input : List ℕ) → unit_line 3 input ≡ 117 ∷ 110 ∷ 105 ∷ 116 ∷ 32 ∷ (hex_digits 16 (be 8 input 4) ++ (10 ∷ []))
  pub no_unit : (scope : ℕ) (input : List ℕ) → (scope ≡ 3 → ⊥) → unit_line scope input ≡ []
  -- "For a refusal it writes one line and no other, as `refused 27 at 4096`."
  pub refusal : (scope : ℕ) (input : List ℕ) (number at : ℕ) → Refuses refusal_number (reading scope input) number at
      → text scope input ≡ (114 ∷ 101 ∷ 102 ∷ 117 ∷ 115 ∷ 101 ∷ 100 ∷ 32 ∷ []) ++ decimal number ++ ((32 ∷ 97 ∷ 116 ∷ 32 ∷ []) ++ (decimal at ++ (10 ∷ [])))
  -- `delete 0000002a`, `update 00001000`, `add 00001000 10000005`
  pub none : lines [] ≡ []
  pub delete : (p : ℕ) (os : List Operation) → lines (Delete p ∷ os)
      ≡ ((100 ∷ 101 ∷ 108 ∷ 101 ∷ 116 ∷ 101 ∷ 32 ∷ []) ++ hex_digits 8 p) ++ (10 ∷ []) ++ lines os
  pub update : (p : ℕ) (os : List Operation) → lines (Update p ∷ os) ≡ ((117 ∷ 112 ∷ 100 ∷ 97 ∷ 116 ∷ 101 ∷ 32 ∷ []) ++ hex_digits 8 p) ++ (10 ∷ []) ++ lines os
  pub add : (p i : ℕ) (os : List Operation) → lines (Add p i ∷ os)
      ≡ ((97 ∷ 100 ∷ 100 ∷ 32 ∷ []) ++ hex_digits 8 p) ++ (32 ∷ hex_digits 8 i) ++ (10 ∷ []) ++ lines os

-- An input that is longer than an area has the text of its first 4,097 bytes, so that no more is read.
abbrev pub LongInput : Type 0
LongInput = (scope : ℕ) (input : List ℕ) → 4096 < length input → text scope (take 4097 input) ≡ text scope input

-- 02, M-100: "the printing program assumes another": 3 for the argument `3` alone, else 1
abbrev pub ScopeExactly : Type 0
ScopeExactly = (scope_of 1 51 ≡ 3) × ((n byte : ℕ) → (n ≡ 1 → byte ≡ 51 → ⊥) → scope_of n byte ≡ 1)

-- print_area
pub record PrintNodesPromise : Type 0 where
  pub text_exactly : TextExactly
  pub scope : ScopeExactly
  pub digits : DigitsExactly
  pub long_input : LongInput
  pub reader : NodeReaderExactly
  pub numbers : NumbersExactly
  pub zeros : ZerosExactly

-- What the printing program writes of each property area, in bytes (document 02, M-103). Cited by the contract of `print_area`.
use Rattle.std.specs.Prelude.{ℕ, ◌<◌, ◌≡◌, true, false, List, [], ◌∷◌, ◌++◌, length, take}
use Rattle.words.specs.Numbers.{be}
use Rattle.words.specs.Reading.{read, Refuses}
use Rattle.words.specs.Claims.Words.{NumbersExactly, NulExactly}
use Rattle.property_area.specs.Piece.{Piece}
use Rattle.property_area.specs.Reading.{reading, refusal_number}
use Rattle.property_area.specs.Claims.Reader.{PropertyReaderExactly}
use Rattle.printing.specs.Text.{decimal, hex_digits, each, hex_byte, name_byte}
use Rattle.printing.specs.Claims.Printing.{DigitsExactly, NamesExactly}
use Rattle.print_properties.specs.Text.{value_text, lines, text}

pub record TextExactly : Type 0 where
  -- `phandle 0000002a`, `state 0`, a line for each property, `end 2`
  pub area : (input : List ℕ) (ps : List Piece) → reading input ≡ read ps → text input
      ≡ ((112 ∷ 104 ∷ 97 ∷ 110 ∷ 100 ∷ 108 ∷ 101 ∷ 32 ∷ []) ++ hex_digits 8 (be 4 input 0)) ++ (10 ∷ [])
      ++ (((115 ∷ 116 ∷ 97 ∷ 116 ∷ 101 ∷ 32 ∷ []) ++ decimal (be 4 input 4)) ++ (10 ∷ [])
      ++ (lines ps ++ (((101 ∷ 110 ∷ 100 ∷ 32 ∷ []) ++ decimal (length ps)) ++ (10 ∷ []))))
  -- 01: "For a refusal it writes one line and no other, as `refused 27 at 4096`."
  pub refusal : (input : List ℕ) (number at : ℕ) → Refuses refusal_number (reading input) number at
      → text input ≡ (114 ∷ 101 ∷ 102 ∷ 117 ∷ 115 ∷ 101 ∷ 100 ∷ 32 ∷ []) ++ decimal number ++ ((32 ∷ 97 ∷ 116 ∷ 32 ∷ []) ++ (decimal at ++ (10 ∷ [])))
  pub none : lines [] ≡ []
  -- `delete NAME`, `property NAME LENGTH HEX`, `part NAME LENGTH HEX`
  pub deleted : (p : Piece) (ps : List Piece) → p.part.deleted ≡ true
      → lines (p ∷ ps) ≡ ((100 ∷ 101 ∷ 108 ∷ 101 ∷ 116 ∷ 101 ∷ 32 ∷ []) ++ each name_byte p.part.name) ++ (10 ∷ []) ++ lines ps
  pub whole : (p : Piece) (ps : List Piece) → p.part.deleted ≡ false → p.more ≡ false
      → lines (p ∷ ps) ≡ ((112 ∷ 114 ∷ 111 ∷ 112 ∷ 101 ∷ 114 ∷ 116 ∷ 121 ∷ 32 ∷ []) ++ each name_byte p.part.name) ++ value_text p.part.value
      ++ (10 ∷ []) ++ lines ps
  pub part : (p : Piece) (ps : List Piece) → p.part.deleted ≡ false → p.more ≡ true
      → lines (p ∷ ps) ≡ ((112 ∷ 97 ∷ 114 ∷ 116 ∷ 32 ∷ []) ++ each name_byte p.part.name) ++ value_text p.part.value ++ (10 ∷ []) ++ lines ps
  -- the length in decimal and, if there are any, the bytes in two hexadecimal digits each
  pub no_value : value_text [] ≡ 32 ∷ 48 ∷ []
  pub value : (b : ℕ) (bs : List ℕ) → value_text (b ∷ bs) ≡ (32 ∷ decimal (length (b ∷ bs))) ++ (32 ∷ each hex_byte (b ∷ bs))
  pub byte : (b : ℕ) → hex_byte b ≡ hex_digits 2 b

-- An input that is longer than an area has the text of its first 4,097 bytes, so that no more is read.
abbrev pub LongInput : Type 0
LongInput = (input : List ℕ) → 4096 < length input → text (take 4097 input) ≡ text input

-- print_area
pub record PrintPropertiesPromise : Type 0 where
  pub text_exactly : TextExactly
  pub digits : DigitsExactly
  pub names : NamesExactly
  pub long_input : LongInput
  pub reader : PropertyReaderExactly
  pub numbers : NumbersExactly
  pub nul : NulExactly

-- What the printing program writes of each index area, in bytes (document 01, "get-indices" and "Readers"). Cited by the contract of `print_area`.
use Rattle.std.specs.Prelude.{ℕ, ◌≤◌, ◌<◌, ◌≡◌, List, [], ◌∷◌, ◌++◌, length}
use Rattle.words.specs.Reading.{read, Refuses}
use Rattle.words.specs.Claims.Words.{NumbersExactly, NulExactly}
use Rattle.inventory.specs.Listing.{Entry}
use Rattle.indices.specs.Reading.{reading, refusal_number}
use Rattle.indices.specs.Claims.Reader.{IndexReaderExactly}
use Rattle.printing.specs.Text.{decimal, hex_digits, each, name_byte}
use Rattle.printing.specs.Claims.Printing.{DigitsExactly, NamesExactly}
use Rattle.print_indices.specs.Text.{lines, printed}

pub record TextExactly : Type 0 where
  -- a line for each entry, `end 2`
  pub area : (input : List ℕ) (es : List Entry) → length input ≤ 1_048_580 → reading input ≡ read es
      → printed input ≡ lines es ++ (((101 ∷ 110 ∷ 100 ∷ 32 ∷ []) ++ decimal (length es)) ++ (10 ∷ []))
  -- 01: "For a refusal it writes one line and no other, as `refused 27 at 4096`."
  pub refusal : (input : List ℕ) (number at : ℕ) → length input ≤ 1_048_580 → Refuses refusal_number (reading input) number at
      → printed input ≡ (114 ∷ 101 ∷ 102 ∷ 117 ∷ 115 ∷ 101 ∷ 100 ∷ 32 ∷ []) ++ decimal number ++ ((32 ∷ 97 ∷ 116 ∷ 32 ∷ []) ++ (decimal at ++ (10 ∷ [])))
  pub longer : (input : List ℕ) → 1_048_580 < length input → printed input ≡ []
  -- `index 00000007 CODE`
  pub none : lines [] ≡ []
  pub each_entry : (e : Entry) (es : List Entry)
      → lines (e ∷ es) ≡ ((105 ∷ 110 ∷ 100 ∷ 101 ∷ 120 ∷ 32 ∷ []) ++ hex_digits 8 e.index) ++ (32 ∷ each name_byte e.code) ++ (10 ∷ []) ++ lines es

-- print_area
pub record PrintIndicesPromise : Type 0 where
  pub text_exactly : TextExactly
  pub digits : DigitsExactly
  pub names : NamesExactly
  pub reader : IndexReaderExactly
  pub numbers : NumbersExactly
  pub nul : NulExactly

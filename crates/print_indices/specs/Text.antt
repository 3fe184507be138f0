-- What the printing program for index areas writes (document 01, "get-indices" and "Readers").
use Rattle.std.specs.Prelude.{ℕ, cond, List, [], ◌∷◌, ◌++◌, leb, length}
use Rattle.words.specs.Reading.{Reading, read, refused}
use Rattle.inventory.specs.Listing.{Entry}
use Rattle.indices.specs.declared.reading.Refusal.{Refusal}
use Rattle.indices.specs.Reading.{reading, refusal_number}
use Rattle.printing.specs.Text.{newline, space, end-, ended, operand, refusal_line, named}

-- the word index, with a space
abbrev pub index- : List ℕ
index- = 105 ∷ 110 ∷ 100 ∷ 101 ∷ 120 ∷ 32 ∷ []

-- one line for each entry: its index in eight hexadecimal digits, and its code
unfoldable pub line : Entry → List ℕ
line e = (operand index- e.index ++ named space e.code) ++ newline

unfoldable pub lines : List Entry → List ℕ
lines [] = []
lines (e ∷ es) = line e ++ lines es

-- a line for each entry and their number, or alone the line of a refusal
abbrev pub text_of : Reading Entry Refusal → List ℕ
text_of (read es) = lines es ++ ended end- (length es)
text_of (refused r at) = refusal_line (refusal_number r) at

unfoldable pub text : List ℕ → List ℕ
text input = text_of (reading input)

-- The longest input whose text is printed: no list of an inventory, which has at most 1,048,576 bytes, takes more than 4 and these.
abbrev pub input_limit : ℕ
input_limit = 1_048_580

-- what is printed: nothing of a longer input
unfoldable pub printed : List ℕ → List ℕ
printed input = cond (leb (length input) input_limit) (text input) []

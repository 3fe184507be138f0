-- What the printing program for property areas writes (document 02, M-103).
use Rattle.std.specs.Prelude.{ℕ, cond, List, [], ◌∷◌, ◌++◌, eqb, length}
use Rattle.words.specs.Reading.{Reading, read, refused}
use Rattle.property_area.specs.declared.reading.Refusal.{Refusal}
use Rattle.property_area.specs.Head.{phandle_in, state_in}
use Rattle.property_area.specs.Piece.{Piece}
use Rattle.property_area.specs.Reading.{reading, refusal_number}
use Rattle.printing.specs.Text.{newline, space, state-, delete-, end-, numbered, ended, operand, refusal_line, each, hex_byte, named}

-- "phandle ", "property ", "part "
abbrev pub phandle- : List ℕ
phandle- = 112 ∷ 104 ∷ 97 ∷ 110 ∷ 100 ∷ 108 ∷ 101 ∷ 32 ∷ []

abbrev pub property- : List ℕ
property- = 112 ∷ 114 ∷ 111 ∷ 112 ∷ 101 ∷ 114 ∷ 116 ∷ 121 ∷ 32 ∷ []

abbrev pub part- : List ℕ
part- = 112 ∷ 97 ∷ 114 ∷ 116 ∷ 32 ∷ []

-- the bytes of a value after a space; nothing if there are none
abbrev pub bytes_text : List ℕ → List ℕ
bytes_text value = cond (eqb (length value) 0) [] (space ++ each hex_byte value)

-- a value's length, and its bytes
abbrev pub value_text : List ℕ → List ℕ
value_text value = numbered space (length value) ++ bytes_text value

-- `delete NAME`, `part NAME LENGTH HEX` if more of the value is in a later call, else `property NAME LENGTH HEX`
abbrev pub entry : Piece → List ℕ
entry p =
    let name = p.part.name in
    let whole = cond p.more part- property- in
    cond p.part.deleted (named delete- name) (named whole name ++ value_text p.part.value)

unfoldable pub line : Piece → List ℕ
line p = entry p ++ newline

unfoldable pub lines : List Piece → List ℕ
lines [] = []
lines (p ∷ ps) = line p ++ lines ps

-- the phandle in eight hexadecimal digits
abbrev pub phandle_line : ℕ → List ℕ
phandle_line phandle = operand phandle- phandle ++ newline

-- phandle, state, a line for each property and their number, or alone the line of a refusal
abbrev pub text_of : ℕ → ℕ → Reading Piece Refusal → List ℕ
text_of phandle state (read ps) = phandle_line phandle ++ (ended state- state ++ (lines ps ++ ended end- (length ps)))
text_of phandle state (refused r at) = refusal_line (refusal_number r) at

unfoldable pub text : List ℕ → List ℕ
text input = text_of (phandle_in input) (state_in input) (reading input)

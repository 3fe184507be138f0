-- What the printing program writes (document 01, "Readings on both sides of the lines").
use Rattle.std.specs.Prelude.{ℕ, cond, List, [], ◌∷◌, ◌++◌, eqb, length}
use Rattle.journal.specs.declared.operation.Operation.{Operation}
use Rattle.journal.specs.declared.operation.Operation.TheVariants.{Delete, Update, Add}
use Rattle.node_area.specs.declared.reading.Refusal.{Refusal}
use Rattle.words.specs.Reading.{Reading, read, refused}
use Rattle.node_area.specs.Reading.{reading, refusal_number}
use Rattle.node_area.specs.Head.{state_in, unit_in}
use Rattle.printing.specs.Text.{hex_digits, newline, space, state-, delete-, end-, ended, operand, refusal_line}

-- the words update, add and unit, each with a space
abbrev pub update- : List ℕ
update- = 117 ∷ 112 ∷ 100 ∷ 97 ∷ 116 ∷ 101 ∷ 32 ∷ []

abbrev pub add- : List ℕ
add- = 97 ∷ 100 ∷ 100 ∷ 32 ∷ []

abbrev pub unit- : List ℕ
unit- = 117 ∷ 110 ∷ 105 ∷ 116 ∷ 32 ∷ []

-- one line for each operation
abbrev pub entry : Operation → List ℕ
entry (Delete p) = operand delete- p
entry (Update p) = operand update- p
entry (Add p i) = operand add- p ++ operand space i

unfoldable pub line : Operation → List ℕ
line o = entry o ++ newline

unfoldable pub lines : List Operation → List ℕ
lines [] = []
lines (o ∷ os) = line o ++ lines os

-- 02, M-100: "the printing program assumes another" than 3, unless its argument is `3`; all others are read alike, so it is 1
unfoldable pub scope_of : ℕ → ℕ → ℕ
scope_of n byte = cond (eqb n 1) (cond (eqb byte 51) 3 1) 1

-- the line of a unit, in scope 3: its address in sixteen hexadecimal digits
abbrev pub unit_line : ℕ → List ℕ → List ℕ
unit_line scope input = cond (eqb scope 3) ((unit- ++ hex_digits 16 (unit_in input)) ++ newline) []

abbrev pub text_of : ℕ → List ℕ → Reading Operation Refusal → List ℕ
text_of scope input (read os) = ended state- (state_in input) ++ (unit_line scope input ++ (lines os ++ ended end- (length os)))
text_of scope input (refused r at) = refusal_line (refusal_number r) at

-- The text of an input that is read as an area of a scope.
unfoldable pub text : ℕ → List ℕ → List ℕ
text scope input = text_of scope input (reading scope input)

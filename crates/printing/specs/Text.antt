-- What the texts of the printing programs are made of (document 01, "Readings on both sides of the lines").
use Rattle.std.specs.Prelude.{ℕ, zero, suc, ◌+◌, ◌/◌, ◌%◌, Bool, cond, not, ◌&&◌, List, [], ◌∷◌, ◌++◌, ltb, eqb}

-- The decimal digits of a number, at most n of them, with no zero in front.
unfoldable pub digits : ℕ → ℕ → List ℕ
digits zero v = []
digits (suc n) v =
    let more = digits n (v / 10) ++ ((48 + v % 10) ∷ []) in
    cond (ltb v 10) ((48 + v) ∷ []) more

unfoldable pub decimal : ℕ → List ℕ
decimal v = digits 20 v

-- a digit from 0 to 15, in small letters
abbrev pub hex_digit : ℕ → ℕ
hex_digit d = cond (ltb d 10) (48 + d) (87 + d)

-- the last n hexadecimal digits of a number
unfoldable pub hex_digits : ℕ → ℕ → List ℕ
hex_digits zero v = []
hex_digits (suc n) v = hex_digits n (v / 16) ++ (hex_digit (v % 16) ∷ [])

abbrev pub hex : ℕ → List ℕ
hex v = hex_digits 8 v

abbrev pub newline : List ℕ
newline = 10 ∷ []

abbrev pub space : List ℕ
space = 32 ∷ []

-- "state ", "delete ", "end ", "refused ", " at "
abbrev pub state- : List ℕ
state- = 115 ∷ 116 ∷ 97 ∷ 116 ∷ 101 ∷ 32 ∷ []

abbrev pub delete- : List ℕ
delete- = 100 ∷ 101 ∷ 108 ∷ 101 ∷ 116 ∷ 101 ∷ 32 ∷ []

abbrev pub end- : List ℕ
end- = 101 ∷ 110 ∷ 100 ∷ 32 ∷ []

abbrev pub refused- : List ℕ
refused- = 114 ∷ 101 ∷ 102 ∷ 117 ∷ 115 ∷ 101 ∷ 100 ∷ 32 ∷ []

abbrev pub -at- : List ℕ
-at- = 32 ∷ 97 ∷ 116 ∷ 32 ∷ []

-- 01: "State, count, refusal and offset are decimal, operands eight hexadecimal digits."
-- a number after a word, the same at the end of a line, and an operand after a word
unfoldable pub numbered : List ℕ → ℕ → List ℕ
numbered word v = word ++ decimal v

unfoldable pub ended : List ℕ → ℕ → List ℕ
ended word v = numbered word v ++ newline

unfoldable pub operand : List ℕ → ℕ → List ℕ
operand word v = word ++ hex v

-- 01: "For a refusal it writes one line and no other, as `refused 27 at 4096`."
abbrev pub refusal_line : ℕ → ℕ → List ℕ
refusal_line number at = numbered refused- number ++ ended -at- at

-- what is written for each byte of a list, in a row
unfoldable pub each : (ℕ → List ℕ) → List ℕ → List ℕ
each f [] = []
each f (b ∷ bs) = f b ++ each f bs

-- a byte in two hexadecimal digits
abbrev pub hex_byte : ℕ → List ℕ
hex_byte b = hex_digits 2 b

-- A byte of a name or a code: itself from 0x21 to 0x7e, but for the backslash; any other as \xNN, so that no name can forge a line.
abbrev pub is_shown : ℕ → Bool
is_shown b = ltb 32 b && ltb b 127

abbrev pub is_plain : ℕ → Bool
is_plain b = is_shown b && not (eqb b 92)

unfoldable pub name_byte : ℕ → List ℕ
name_byte b = cond (is_plain b) (b ∷ []) ((92 ∷ 120 ∷ []) ++ hex_byte b)

abbrev pub named : List ℕ → List ℕ → List ℕ
named word name = word ++ each name_byte name

-- The digits of a text, one after the other (document 01, "Readings on both sides of the lines"). Part of the promises of the printing programs.
use Rattle.std.specs.Prelude.{ℕ, suc, ◌+◌, ◌/◌, ◌%◌, ◌^◌, ◌≤◌, ◌<◌, ◌≡◌, true, List, [], ◌∷◌, ◌++◌, ◌⊎◌}
use Rattle.words.specs.Claims.Cases.{all}
use Rattle.printing.specs.Text.{decimal, hex_digits, hex_byte, each, is_shown, name_byte}

-- 01: "State, count, refusal and offset are decimal, operands eight hexadecimal digits." 0 to 9 are the bytes 48 to 57, a to f 97 to 102.
pub record DigitsExactly : Type 0 where
  pub one : (v : ℕ) → v < 10 → decimal v ≡ (48 + v) ∷ []
  pub more : (v : ℕ) → 10 ≤ v → v < 2 ^ 64 → decimal v ≡ decimal (v / 10) ++ ((48 + v % 10) ∷ [])
  pub none : (v : ℕ) → hex_digits 0 v ≡ []
  pub low : (n v : ℕ) → v % 16 < 10 → hex_digits (suc n) v ≡ hex_digits n (v / 16) ++ ((48 + v % 16) ∷ [])
  pub high : (n v : ℕ) → 10 ≤ v % 16 → hex_digits (suc n) v ≡ hex_digits n (v / 16) ++ ((87 + v % 16) ∷ [])
  pub byte : (b : ℕ) → hex_byte b ≡ hex_digits 2 b

-- Names and codes, byte by byte: 0x21 to 0x7e as they are, but for the backslash; any other byte as \xNN.
pub record NamesExactly : Type 0 where
  pub none : (f : ℕ → List ℕ) → each f [] ≡ []
  pub bytes : (f : ℕ → List ℕ) (b : ℕ) (bs : List ℕ) → each f (b ∷ bs) ≡ f b ++ each f bs
  pub plain : (b : ℕ) → 0x21 ≤ b → b ≤ 0x7e → (b ≡ 0x5c → ⊥) → name_byte b ≡ b ∷ []
  pub escaped : (b : ℕ) → (b < 0x21) ⊎ ((0x7e < b) ⊎ (b ≡ 0x5c)) → name_byte b ≡ 92 ∷ 120 ∷ hex_digits 2 b
  -- Whatever its bytes are, a name is written in bytes from 0x21 to 0x7e alone: none ends the line, or the word that it stands in.
  pub shown : (name : List ℕ) → all is_shown (each name_byte name) ≡ true

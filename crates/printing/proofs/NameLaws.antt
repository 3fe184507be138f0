-- Names byte by byte: no byte of what is written is a space or the end of a line.
use mathlib.Core.Path.{◌≡◌, refl}
use mathlib.Core.Bool.{true}
use mathlib.Core.List.{List, [], ◌∷◌, ◌++◌}
use Prim.Native.Nat.{ℕ, zero, suc, ◌+◌, ◌/◌, ◌%◌, ◌≤◌, ◌<◌}
use mathlib.Core.Logic.{⊎_elim}
use native.Mathlib.Omega.{arith}
use lib.Dec.{ltb}
use borrow.Author.Tests.{lt-ltb, le-ltb, ne_eqb}
use Rattle.words.specs.Claims.Cases.{all}
use Rattle.words.proofs.Choice.{choose, and_left, and_right}
use Rattle.printing.specs.Text.{hex_digit, hex_digits, each, hex_byte, is_shown, is_plain, name_byte}
use Rattle.printing.specs.Claims.Printing.{NamesExactly}

abbrev AllShown : List ℕ → Type 0
AllShown bytes = all is_shown bytes ≡ true

shown-append : (us vs : List ℕ) → AllShown us → AllShown vs → AllShown (us ++ vs)
shown-append [] vs h k = k
shown-append (u ∷ us) vs h k = rw (and_left (is_shown u) (all is_shown us) h) (shown-append us vs (and_right (is_shown u) (all is_shown us) h) k)

shown_one : (b : ℕ) → 32 < b → b < 127 → AllShown (b ∷ [])
shown_one b h k = rw (lt-ltb 32 b h, lt-ltb b 127 k)

shown_digit : (d : ℕ) → d < 16 → AllShown (hex_digit d ∷ [])
shown_digit d h =
    choose (ltb d 10) (λ (b : ℕ). AllShown (b ∷ [])) (λ e. shown_one (48 + d) (omega arith) (omega arith)) (λ e. shown_one (87 + d) (omega arith) (omega arith))

shown_hex : (n v : ℕ) → AllShown (hex_digits n v)
unfolding hex_digits
shown_hex zero v = refl
shown_hex (suc n) v = shown-append (hex_digits n (v / 16)) (hex_digit (v % 16) ∷ []) (shown_hex n (v / 16)) (shown_digit (v % 16) (omega arith))

shown_byte : (b : ℕ) → AllShown (name_byte b)
unfolding name_byte
shown_byte b =
    choose (is_plain b) AllShown
    (λ e. rw (and_left (is_shown b) _ e))
    (λ e. shown-append (92 ∷ 120 ∷ []) (hex_byte b) refl (shown_hex 2 b))

shown_name : (name : List ℕ) → AllShown (each name_byte name)
unfolding each
shown_name [] = refl
shown_name (b ∷ bs) = shown-append (name_byte b) (each name_byte bs) (shown_byte b) (shown_name bs)

-- ---- the bytes one after the other

plain : (b : ℕ) → 33 ≤ b → b ≤ 126 → (b ≡ 92 → ⊥) → name_byte b ≡ b ∷ []
unfolding name_byte
plain b h k other = rw (lt-ltb 32 b (omega arith), lt-ltb b 127 (omega arith), ne_eqb b 92 other)

low : (b : ℕ) → b < 33 → name_byte b ≡ 92 ∷ 120 ∷ hex_digits 2 b
unfolding name_byte
low b h = rw (le-ltb 32 b (omega arith))

high : (b : ℕ) → 126 < b → name_byte b ≡ 92 ∷ 120 ∷ hex_digits 2 b
unfolding name_byte
high b h = rw (lt-ltb 32 b (omega arith), le-ltb b 127 (omega arith))

backslash : (b : ℕ) → b ≡ 92 → name_byte b ≡ 92 ∷ 120 ∷ hex_digits 2 b
unfolding name_byte
backslash b h = rw h

pub names_exactly : NamesExactly
unfolding each
names_exactly =
    record {
      none = λ f. refl;
      bytes = λ f b bs. refl;
      plain = plain;
      escaped = λ b. ⊎_elim (low b) (⊎_elim (high b) (backslash b));
      shown = shown_name;
    }

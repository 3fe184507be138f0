-- Laws of what is written for each byte of a list.
use mathlib.Core.Path.{◌≡◌}
use mathlib.Core.Bool.{true, false}
use mathlib.Core.List.{List, [], ◌∷◌, ◌++◌}
use Prim.Native.Nat.{ℕ, ◌+◌, ◌*◌, ◌<◌, ◌≤◌}
use native.Mathlib.Numerals.{add-one}
use native.Mathlib.Omega.{arith}
use lib.ListN.{length, drop, get_or, length-append, drop_of_length-le}
use lib.Seq.{drop-cons}
use Rattle.words.proofs.Choice.{choose}
use Rattle.printing.specs.declared.put.Text.{Text}
use Rattle.printing.specs.Put.{Fits, Put}
use Rattle.printing.proofs.Puts.{fits-first, Ahead, ahead_then, ahead_none}
use Rattle.printing.proofs.Sizes.{length_hex_digits}
use Rattle.printing.specs.Text.{each, hex_byte, is_plain, name_byte, named}

-- ---- a byte of a name

module _ (b : ℕ) where
  pub plain_text : is_plain b ≡ true → name_byte b ≡ b ∷ []
  unfolding name_byte
  plain_text e = rw e

  pub escaped_text : is_plain b ≡ false → name_byte b ≡ (92 ∷ 120 ∷ []) ++ hex_byte b
  unfolding name_byte
  escaped_text e = rw e

  length_name_byte : length (name_byte b) ≤ 4
  unfolding name_byte
  length_name_byte = choose (is_plain b) (λ (s : List ℕ). length s ≤ 4) (λ _. omega arith) (λ _. omega (arith, length_hex_digits 2 b))

-- ---- the bytes one by one: all is the whole text

module _ (f : ℕ → List ℕ) (bytes : List ℕ) {all : List ℕ} {a b : Text} {i : ℕ} (p : Ahead all a b (each f (drop i bytes))) where
  module _ (h : i < length bytes) where
    next : each f (drop i bytes) ≡ f (get_or bytes i 0) ++ each f (drop (i + 1) bytes)
    unfolding each
    next = rw (drop-cons bytes i 0 h, add-one i)

    pub next_fits : Fits b (f (get_or bytes i 0))
    next_fits = fits-first b.length (f (get_or bytes i 0)) (each f (drop (i + 1) bytes)) (rw next at p.fits)

    pub next_put : {c : Text} → Put b c (f (get_or bytes i 0)) → Ahead all a c (each f (drop (i + 1) bytes))
    next_put q = ahead_then (each f (drop (i + 1) bytes)) (rw next at p) q

  pub all_put : length bytes ≤ i → Put a b all
  unfolding each
  all_put h = ahead_none (rw (drop_of_length-le bytes h) at p)

-- a byte for which at most four are written
pub length_each : (f : ℕ → List ℕ) → ((b : ℕ) → length (f b) ≤ 4) → (bytes : List ℕ) → length (each f bytes) ≤ 4 * length bytes
unfolding each
length_each f h [] = omega arith
length_each f h (b ∷ bs) = omega (arith, length-append (f b) (each f bs), h b, length_each f h bs)

pub length_named : (word name : List ℕ) → length (named word name) ≤ length word + 4 * length name
length_named word name = omega (arith, length-append word (each name_byte name), length_each name_byte length_name_byte name)

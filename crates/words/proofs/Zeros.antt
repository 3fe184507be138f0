-- The test of a range for zero, one byte after the other.
use mathlib.Core.Path.{◌≡◌, refl, sym, ap, ◌∙◌}
use mathlib.Core.Bool.{true, ◌&&◌}
use mathlib.Core.List.{List, [], ◌∷◌}
use Prim.Native.Nat.{ℕ, zero, suc, ◌+◌, ◌<◌, ◌≤◌}
use native.Mathlib.Numerals.{add-one}
use native.Mathlib.Omega.{arith}
use lib.Dec.{eqb}
use lib.ListN.{length, get_or, drop, replicate}
use lib.Seq.{drop-cons}
use Rattle.std.proofs.Math.ListN.{drop_of_length-le}
use Rattle.std.proofs.Math.Bool.{and-true}
use Rattle.std.specs.Prelude.{max}
use Rattle.std.proofs.Math.Nat.{zero-max, le-max_left}
use borrow.Author.Tests.{eq-eqb, ne_eqb, eqb-true}
use Rattle.words.specs.Numbers.{zeros}
use Rattle.std.specs.List.{list_all}
use Rattle.std.specs.Prelude.{◌==◌}
use Rattle.words.proofs.Choice.{and_left, and_right}

pub zeros_zero : (n : ℕ) → zeros (replicate n 0) ≡ true
unfolding zeros
zeros_zero zero = refl
zeros_zero (suc n) = zeros_zero n

-- the test tells each byte
pub zeros_byte : (l : List ℕ) (i : ℕ) → zeros l ≡ true → get_or l i 0 ≡ 0
unfolding zeros
zeros_byte [] i e = refl
zeros_byte (b ∷ bs) zero e = eqb-true b 0 (and_left (eqb b 0) (zeros bs) e)
zeros_byte (b ∷ bs) (suc i) e = zeros_byte bs i (and_right (eqb b 0) (zeros bs) e)

pub zeros_all : (l : List ℕ) → ((i : ℕ) → i < length l → get_or l i 0 ≡ 0) → zeros l ≡ true
unfolding zeros
zeros_all [] h = refl
zeros_all (b ∷ bs) h = rw (eq-eqb b 0 (h 0 (omega arith))) (zeros_all bs (λ i l. h (suc i) (omega arith)))

-- as a test of each element
pub zeros_listed : (l : List ℕ) → zeros l ≡ list_all (λ b. b == 0) l
unfolding zeros
zeros_listed [] = refl
zeros_listed (b ∷ bs) = rw (zeros_listed bs)

-- as a test of the largest byte: one that has come to a place finds there what it finds from its start
pub zeros_largest : (largest b : ℕ) (bs : List ℕ) → (eqb (max largest b) 0 && zeros bs) ≡ (eqb largest 0 && zeros (b ∷ bs))
unfolding zeros
zeros_largest zero b bs = rw (zero-max b) refl
zeros_largest (suc n) b bs = rw (ne_eqb (max (suc n) b) 0 (λ e. omega (arith, le-max_left (suc n) b)), ne_eqb (suc n) 0 (λ e. omega arith)) refl

pub zeros_next : (l : List ℕ) (largest i : ℕ) → i < length l → (eqb largest 0 && zeros (drop i l)) ≡ zeros l
    → (eqb (max largest (get_or l i 0)) 0 && zeros (drop (i + 1) l)) ≡ zeros l
zeros_next l largest i h e = zeros_largest largest (get_or l i 0) (drop (i + 1) l) ∙ rw (add-one) (ap (λ x. eqb largest 0 && zeros x) (sym (drop-cons l i 0 h)) ∙ e)

pub zeros_end : (l : List ℕ) (largest i : ℕ) → length l ≤ i → (eqb largest 0 && zeros (drop i l)) ≡ zeros l → eqb largest 0 ≡ zeros l
unfolding zeros
zeros_end l largest i h e = sym (and-true (eqb largest 0)) ∙ (rw (drop_of_length-le l h) at e)

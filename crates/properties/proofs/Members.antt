-- Membership in a list, by places.
use mathlib.Core.Path.{◌≡◌, refl, sym, ap, ◌∙◌}
use mathlib.Core.Bool.{Bool, true, false, ◌||◌, or-true, or_assoc, false≢true}
use mathlib.Core.List.{List, [], ◌∷◌, ◌++◌}
use Prim.Native.Nat.{ℕ, zero, suc, ◌<◌}
use native.Mathlib.Omega.{arith}
use lib.Dec.{eqb}
use borrow.Author.Tests.{eqb-true, eq-eqb}
use lib.ListN.{length, get_or}
use Rattle.properties.specs.Session.{member}

pub member_at : (xs : List ℕ) (n : ℕ) → n < length xs → member (get_or xs n 0) xs ≡ true
unfolding member
member_at [] n h = absurd (omega arith)
member_at (x ∷ xs) zero h = rw (eq-eqb x x refl)
member_at (x ∷ xs) (suc n) h = rw (member_at xs n (omega arith)) (or-true (eqb (get_or xs n 0) x))

pub member_append : (s : ℕ) (xs ys : List ℕ) → member s (xs ++ ys) ≡ (member s xs || member s ys)
unfolding member
member_append s [] ys = refl
member_append s (x ∷ xs) ys = ap (λ (t : Bool). eqb s x || t) (member_append s xs ys) ∙ sym (or_assoc (eqb s x) (member s xs) (member s ys))

abbrev pub Place : ℕ → List ℕ → Type 0
Place s xs = (n : ℕ) × (n < length xs) × (get_or xs n 0 ≡ s)

pub member_place : (s : ℕ) (xs : List ℕ) → member s xs ≡ true → Place s xs
unfolding member
member_place s [] e = absurd (false≢true e)
member_place s (x ∷ xs) e = by (eqb s x) refl (member_place s xs) e
  where
    by : (t : Bool) → eqb s x ≡ t → (member s xs ≡ true → Place s xs) → (t || member s xs) ≡ true → Place s (x ∷ xs)
    by true q r e = (0, omega arith, sym (eqb-true s x q))
    by false q r e = let m = r e in (suc m.0, omega (arith, m.1), m.2)

-- Tests that hold exactly when a statement does.
use mathlib.Core.Path.{◌≡◌}
use mathlib.Core.Bool.{Bool, true, ◌&&◌, ◌||◌, or-true}
use mathlib.Core.Logic.{◌⊎◌, inl, inr, ⊎_elim}
use Prim.Native.Nat.{ℕ, ◌<◌, ◌≤◌}
use lib.Dec.{leb, ltb, eqb}
use borrow.Author.Tests.{leb-true, le-leb, ltb-true, lt-ltb, eqb-true, eq-eqb}
use Rattle.words.specs.Claims.Exactly.{Exactly}
use Rattle.words.proofs.Choice.{decide, and_left, and_right}

pub equal : (a b : ℕ) → Exactly (eqb a b ≡ true) (a ≡ b)
equal a b = (eqb-true a b, eq-eqb a b)

pub at_most : (a b : ℕ) → Exactly (leb a b ≡ true) (a ≤ b)
at_most a b = (leb-true a b, le-leb a b)

pub below : (a b : ℕ) → Exactly (ltb a b ≡ true) (a < b)
below a b = (ltb-true a b, lt-ltb a b)

module _ {a b : Bool} {P Q : Type 0} (p : Exactly (a ≡ true) P) (q : Exactly (b ≡ true) Q) where
  pub both : Exactly ((a && b) ≡ true) (P × Q)
  both = (λ e. (p.0 (and_left a b e), q.0 (and_right a b e)), λ h. rw (p.1 h.0) (q.1 h.1))

  pub either : Exactly ((a || b) ≡ true) (P ⊎ Q)
  either = (λ e. decide a (λ t. inl (p.0 t)) (λ t. inr (q.0 (rw t at e))), ⊎_elim (λ (h : P). rw (p.1 h)) (λ (h : Q). rw (q.1 h) (or-true a)))

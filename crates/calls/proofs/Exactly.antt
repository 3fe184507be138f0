-- Tests that hold exactly when a statement does.
use mathlib.Core.Path.{◌≡◌, refl, sym, ◌∙◌}
use mathlib.Core.Bool.{Bool, true, false, ◌&&◌, ◌||◌, not, false≢true}
use mathlib.Core.Logic.{◌⊎◌, inl, inr, ⊎_elim}
use Prim.Native.Nat.{ℕ, ◌≤◌, ◌<◌}
use lib.Dec.{leb, ltb, eqb}
use borrow.Author.Tests.{leb-true, le-leb, ltb-true, lt-ltb, eqb-true, eq-eqb}
use Rattle.words.specs.Claims.Exactly.{Exactly}
use Rattle.words.proofs.Choice.{and_left, and_right}

pub equal : (a b : ℕ) → Exactly (eqb a b ≡ true) (a ≡ b)
equal a b = (eqb-true a b, eq-eqb a b)

pub at_most : (a b : ℕ) → Exactly (leb a b ≡ true) (a ≤ b)
at_most a b = (leb-true a b, le-leb a b)

pub below : (a b : ℕ) → Exactly (ltb a b ≡ true) (a < b)
below a b = (ltb-true a b, lt-ltb a b)

module _ {P Q : Type 0} (a b : Bool) (p : Exactly (a ≡ true) P) (q : Exactly (b ≡ true) Q) where
  pub both : Exactly ((a && b) ≡ true) (P × Q)
  both = (λ e. (p.0 (and_left a b e), q.0 (and_right a b e)), λ h. rw (p.1 h.0) (q.1 h.1))

  pub either : Exactly ((a || b) ≡ true) (P ⊎ Q)
  either = (split a p, join a p)
    where
      split : (t : Bool) → Exactly (t ≡ true) P → (t || b) ≡ true → P ⊎ Q
      split true f e = inl (f.0 refl)
      split false f e = inr (q.0 e)

      join : (t : Bool) → Exactly (t ≡ true) P → P ⊎ Q → (t || b) ≡ true
      join true f h = refl
      join false f h = ⊎_elim (λ x. absurd (false≢true (f.1 x))) (λ y. q.1 y) h

pub no : {P : Type 0} (a : Bool) → Exactly (a ≡ true) P → Exactly (not a ≡ true) (P → ⊥)
no true p = (λ e. absurd (false≢true e), λ h. absurd (h (p.0 refl)))
no false p = (λ e h. false≢true (p.1 h), λ h. refl)

-- a test that is false
pub fails : (a : Bool) → Exactly (not a ≡ true) (a ≡ false)
fails true = (λ e. sym e, λ e. sym e)
fails false = (λ e. refl, λ e. refl)

-- two statements whose tests are the same
pub same : {P Q : Type 0} (a b : Bool) → a ≡ b → Exactly (a ≡ true) P → Exactly (b ≡ true) Q → Exactly P Q
same a b e p q = (λ h. q.0 (sym e ∙ p.1 h), λ h. p.0 (e ∙ q.1 h))

-- A registration from one call to the next.
use mathlib.Core.Path.{◌≡◌, refl, sym, ap, ◌∙◌}
use mathlib.Core.Bool.{true, false, and-false, false≢true}
use mathlib.Core.Logic.{◌⊎◌, inl, inr, ⊎_elim}
use Prim.Native.Nat.{◌<◌, ◌≤◌}
use native.Mathlib.Omega.{arith}
use lib.Dec.{leb}
use borrow.Author.Tests.{leb-true, leb-false, le-leb, lt-leb}
use Rattle.words.proofs.Choice.{decide}
use Rattle.dump.specs.Registration.{no_registration}
use Rattle.calls.specs.declared.status.Number.{Number}
use Rattle.calls.specs.declared.status.Number.TheVariants.{Given, Short, NoOutputs, TooMany}
use Rattle.calls.specs.Status.{number_of}
use Rattle.calls.proofs.Registrations.{handed_short}
use Rattle.crossing.specs.Registration.{is_registration}
use Rattle.crossing.proofs.Registrations.{bounds, flat_is}
use Rattle.draugsten.specs.Registration.{FlatFound, FlatLeft, found_over, called, flat_call_of}
use Rattle.draugsten.specs.Claims.Registration.{CallCrosses, ThirteenExactly, RegistrationCrosses, HandedOn, StartTaken}

no_thirteen : (n : Number) → number_of n ≡ 13 → ⊥
no_thirteen Given e = omega arith
no_thirteen Short e = omega arith
no_thirteen NoOutputs e = omega arith
no_thirteen TooMany e = omega arith

-- 13 is given for what is no registration, and for nothing else
module _ (f : FlatFound) where
  taken : is_registration f.registration ≡ true → (flat_call_of f).number ≡ 13 → ⊥
  unfolding flat_call_of
  taken is e = no_thirteen (called f).number (rw is at e)

  not_refused : ((flat_call_of f).number ≡ 13 → ⊥) → is_registration f.registration ≡ true
  unfolding flat_call_of
  not_refused n = decide (is_registration f.registration) (λ t. t) (λ t. absurd (n (rw t)))

  then_is : is_registration f.registration ≡ true → is_registration (flat_call_of f).registration ≡ true
  unfolding flat_call_of
  then_is is = rw is (flat_is (called f).registration (handed_short (found_over f) (bounds f.registration is).1))

-- what is no registration, in numbers
not_is : (f : FlatFound) → (2 < f.registration.phase) ⊎ (512 < f.registration.length) → is_registration f.registration ≡ false
unfolding is_registration
not_is f e = ⊎_elim (λ h. rw (lt-leb f.registration.phase 2 h)) (λ h. simp (lt-leb f.registration.length 512 h, and-false)) e

is_one : (f : FlatFound) → f.registration.phase ≤ 2 → f.registration.length ≤ 512 → is_registration f.registration ≡ true
unfolding is_registration
is_one f p l = rw (le-leb f.registration.phase 2 p, le-leb f.registration.length 512 l)

pub call_crosses : CallCrosses
unfolding flat_call_of
call_crosses f = record { given = λ p l. rw (is_one f p l); refused = λ e. rw (not_is f e) }

pub registration_crosses : RegistrationCrosses
registration_crosses = record { start = refl; phases = λ n c. (refl, (refl, refl)) }

outside : (f : FlatFound) → is_registration f.registration ≡ false → (2 < f.registration.phase) ⊎ (512 < f.registration.length)
outside f e = decide (leb f.registration.phase 2)
    (λ p. decide (leb f.registration.length 512) (λ l. absurd (false≢true (sym e ∙ is_one f (leb-true _ 2 p) (leb-true _ 512 l)))) (λ l. inr (leb-false _ 512 l)))
    (λ p. inl (leb-false _ 2 p))

pub thirteen_exactly : ThirteenExactly
thirteen_exactly f =
    ((λ n. decide (is_registration f.registration) (λ is. absurd (taken f is n)) (outside f)), (λ e. ap (λ (x : FlatLeft). x.number) ((call_crosses f).refused e)))

-- a claim that `draugsten_call` cites
pub handed_on : HandedOn
handed_on f n next e = taken next (ap is_registration e ∙ then_is f (not_refused f n))

-- the claim that `draugsten_no_registration` cites
pub start_taken : StartTaken
start_taken f e = taken f (ap is_registration e ∙ flat_is no_registration (omega arith))

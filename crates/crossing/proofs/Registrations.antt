-- A registration over the C boundary and back.
use mathlib.Core.Path.{◌≡◌, refl, ap}
use mathlib.Core.Bool.{true}
use Prim.Native.Nat.{ℕ, zero, suc, ◌≤◌}
use native.Mathlib.Omega.{arith}
use lib.Dec.{leb}
use borrow.Author.Tests.{leb-true, le-leb}
use Rattle.words.proofs.Choice.{and_left, and_right}
use Rattle.dump.specs.declared.registration.Phase.{Phase}
use Rattle.dump.specs.declared.registration.Phase.TheVariants.{Unregistered, Registered, Active}
use Rattle.dump.specs.declared.registration.Registration.{Registration}
use Rattle.dump.specs.Registration.{copy_size}
use Rattle.crossing.specs.declared.registration.FlatRegistration.{FlatRegistration}
use Rattle.crossing.specs.Registration.{phase_number, phase_of, flat_of, registration_of, is_registration}
use Rattle.crossing.specs.Claims.Registration.{Faithful, RegistrationExactly}

-- the phase and the length of a registration
pub bounds : (f : FlatRegistration) → is_registration f ≡ true → (f.phase ≤ 2) × (f.length ≤ copy_size)
unfolding is_registration
bounds f e = (leb-true f.phase 2 (and_left _ _ e), omega (arith, leb-true f.length _ (and_right (leb f.phase 2) _ e)))

-- the number of a phase that was read from a number is that number
phase_back : (n : ℕ) → n ≤ 2 → phase_number (phase_of n) ≡ n
phase_back zero h = refl
phase_back (suc zero) h = refl
phase_back (suc (suc zero)) h = refl
phase_back (suc (suc (suc n))) h = omega arith

pub same : (f : FlatRegistration) → f.phase ≤ 2 → flat_of (registration_of f) ≡ f
same f h = ap (λ (n : ℕ). record { phase = n; length = f.length; copy = f.copy }) (phase_back f.phase h)

is_one : (f : FlatRegistration) → (f.phase ≤ 2) × (f.length ≤ 512) → is_registration f ≡ true
unfolding is_registration
is_one f h = rw (le-leb f.phase 2 h.0, le-leb f.length 512 h.1)

-- the claims that `registration_of` cites
pub faithful : Faithful
faithful f e = same f (bounds f e).0

pub registration_exactly : RegistrationExactly
registration_exactly = record {
  taken = λ f. (bounds f, is_one f);
  same = same;
  start = refl;
  comes = λ n c. (refl, (refl, refl));
  goes = λ n c. (refl, (refl, refl));
}

few_phases : (p : Phase) → phase_number p ≤ 2
few_phases Unregistered = omega arith
few_phases Registered = omega arith
few_phases Active = omega arith

-- a length within the copy makes a registration
pub flat_is : (r : Registration) → r.len ≤ copy_size → is_registration (flat_of r) ≡ true
unfolding is_registration
flat_is r h = rw (le-leb _ 2 (few_phases r.phase)) (le-leb r.len _ (omega arith))

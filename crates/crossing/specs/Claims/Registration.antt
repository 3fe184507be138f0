-- What is claimed of a registration as it crosses the C boundary.
use Rattle.std.specs.Prelude.{ℕ, ◌≤◌, ◌≡◌, true, List, replicate}
use Rattle.words.specs.Claims.Exactly.{Exactly}
use Rattle.dump.specs.declared.registration.Phase.TheVariants.{Unregistered, Registered, Active}
use Rattle.dump.specs.Registration.{no_registration}
use Rattle.crossing.specs.declared.registration.FlatRegistration.{FlatRegistration}
use Rattle.crossing.specs.Registration.{flat_of, registration_of, is_registration}

-- A registration goes over the boundary and back as it is, bit for bit.
abbrev pub Faithful : Type 0
Faithful = (f : FlatRegistration) → is_registration f ≡ true → flat_of (registration_of f) ≡ f

-- Which numbers are a registration, what they stand for, and that one goes over the boundary and back as it is, whatever its length.
pub record RegistrationExactly : Type 0 where
  pub taken : (f : FlatRegistration) → Exactly (is_registration f ≡ true) ((f.phase ≤ 2) × (f.length ≤ 512))
  pub same : (f : FlatRegistration) → f.phase ≤ 2 → flat_of (registration_of f) ≡ f
  pub start : flat_of no_registration ≡ record { phase = 0; length = 0; copy = replicate 512 0 }
  pub comes : (n : ℕ) (c : List ℕ) → (registration_of (record { phase = 0; length = n; copy = c }) ≡ record { phase = Unregistered; len = n; copy = c })
      × ((registration_of (record { phase = 1; length = n; copy = c }) ≡ record { phase = Registered; len = n; copy = c })
      × (registration_of (record { phase = 2; length = n; copy = c }) ≡ record { phase = Active; len = n; copy = c }))
  pub goes : (n : ℕ) (c : List ℕ) → (flat_of (record { phase = Unregistered; len = n; copy = c }) ≡ record { phase = 0; length = n; copy = c })
      × ((flat_of (record { phase = Registered; len = n; copy = c }) ≡ record { phase = 1; length = n; copy = c })
      × (flat_of (record { phase = Active; len = n; copy = c }) ≡ record { phase = 2; length = n; copy = c }))

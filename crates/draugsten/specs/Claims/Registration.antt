-- What is claimed of the definitions of `Registration`.
use Rattle.std.specs.Prelude.{ℕ, ◌<◌, ◌≤◌, ◌≡◌, List, ◌⊎◌, replicate}
use Rattle.words.specs.Claims.Exactly.{Exactly}
use Rattle.dump.specs.declared.registration.Phase.TheVariants.{Unregistered, Registered, Active}
use Rattle.dump.specs.Registration.{no_registration}
use Rattle.calls.specs.Status.{number_of}
use Rattle.calls.specs.Buffer.{found, call_of}
use Rattle.crossing.specs.Registration.{flat_of, registration_of}
use Rattle.crossing.specs.Record.{flat_reading_of, reading_of}
use Rattle.draugsten.specs.Registration.{FlatFound, flat_leaves, flat_call_of}

-- What a call leaves at the boundary is what it leaves over the registration and the reading record that crossed; or, with 13, what it found.
pub record CallOver (f : FlatFound) : Type 0 where
  pub given : f.registration.phase ≤ 2 → f.registration.length ≤ 512 →
      let x = call_of (found f.args f.memory f.journal f.inventory (record { 0 = f.edition })
      (registration_of f.registration) (reading_of f.reading)) in
      flat_call_of f ≡ flat_leaves (number_of x.number) x.args x.memory (flat_of x.registration) (flat_reading_of x.reading)
  pub refused : (2 < f.registration.phase) ⊎ (512 < f.registration.length)
      → flat_call_of f ≡ flat_leaves 13 f.args f.memory f.registration f.reading

abbrev pub CallCrosses : Type 0
CallCrosses = (f : FlatFound) → CallOver f

-- 13 exactly when the phase is no number of one, or the length passes the copy; nothing else of a registration is looked at.
abbrev pub ThirteenExactly : Type 0
ThirteenExactly = (f : FlatFound) → Exactly ((flat_call_of f).number ≡ 13) ((2 < f.registration.phase) ⊎ (512 < f.registration.length))

-- The phases by their numbers, and the registration that a partition starts with.
pub record RegistrationCrosses : Type 0 where
  pub start : flat_of no_registration ≡ record { phase = 0; length = 0; copy = replicate 512 0 }
  pub phases : (n : ℕ) (c : List ℕ) → (registration_of (record { phase = 0; length = n; copy = c }) ≡ record { phase = Unregistered; len = n; copy = c })
      × ((registration_of (record { phase = 1; length = n; copy = c }) ≡ record { phase = Registered; len = n; copy = c })
      × (registration_of (record { phase = 2; length = n; copy = c }) ≡ record { phase = Active; len = n; copy = c }))

-- A call that does not itself give 13 gives a registration that no later call refuses with 13.
abbrev pub HandedOn : Type 0
HandedOn = (f : FlatFound) → ((flat_call_of f).number ≡ 13 → ⊥) → (next : FlatFound) → next.registration ≡ (flat_call_of f).registration
    → (flat_call_of next).number ≡ 13 → ⊥

-- Nor does a call refuse with 13 the registration that a partition starts with.
abbrev pub StartTaken : Type 0
StartTaken = (f : FlatFound) → f.registration ≡ flat_of no_registration → (flat_call_of f).number ≡ 13 → ⊥

-- The registration as it crosses the C boundary.
use Rattle.std.specs.Prelude.{ℕ, Bool, cond, ◌&&◌, leb, eqb}
use Rattle.dump.specs.declared.registration.Phase.{Phase}
use Rattle.dump.specs.declared.registration.Phase.TheVariants.{Unregistered, Registered, Active}
use Rattle.dump.specs.declared.registration.Registration.{Registration}
use Rattle.dump.specs.Registration.{copy_size}
use Rattle.crossing.specs.declared.registration.FlatRegistration.{FlatRegistration}

-- 01: "The registration is none, registered (with a copy of the structure) or active": the phases by their numbers
abbrev pub phase_number : Phase → ℕ
phase_number Unregistered = 0
phase_number Registered = 1
phase_number Active = 2

abbrev pub phase_of : ℕ → Phase
phase_of n = cond (eqb n 0) Unregistered (cond (eqb n 1) Registered Active)

abbrev pub flat_of : Registration → FlatRegistration
flat_of r = record { phase = phase_number r.phase; length = r.len; copy = r.copy }

abbrev pub registration_of : FlatRegistration → Registration
registration_of f = record { phase = phase_of f.phase; len = f.length; copy = f.copy }

-- a phase of 0 to 2 and a length within the copy; anything else is no registration
unfoldable pub is_registration : FlatRegistration → Bool
is_registration f = leb f.phase 2 && leb f.length copy_size

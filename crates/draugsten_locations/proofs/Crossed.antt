-- What is claimed of lookups and views at the C boundary holds.
use mathlib.Core.Path.{◌≡◌, refl, ap}
use mathlib.Core.List.{List, []}
use Prim.Native.Nat.{ℕ}
use native.Mathlib.Omega.{arith}
use lib.ListN.{take, drop}
use Rattle.words.specs.Claims.Exactly.{Exactly}
use Rattle.indices.specs.declared.reading.Refusal.{Refusal}
use Rattle.indices.specs.declared.reading.Refusal.TheVariants.{Short, Past, Length, Code}
use Rattle.indices.specs.Reading.{refusal_number}
use Rattle.locations.specs.declared.lookups.Location.{Location}
use Rattle.locations.specs.declared.lookups.Location.TheVariants.{Refused, NotFound, InArea, InFixed}
use Rattle.locations.specs.declared.lookups.Answer.TheVariants as answer
use Rattle.locations.specs.Locations.{location_of, answer_of, code_of}
use Rattle.locations.proofs.LookupClaims.{location_claims}
use Rattle.draugsten_locations.specs.Flat.{flat_location, told_by}
use Rattle.draugsten_locations.specs.Claims.Flat.{LookupCrossing, ViewCrossing, RefusalNumbers, LookupNumbers, StepNumbers}

not-zero : (r : Refusal) → refusal_number r ≡ 0 → ⊥
not-zero Short e = omega arith
not-zero Past e = omega arith
not-zero Length e = omega arith
not-zero Code e = omega arith

module _ (area fixed : List ℕ) where
  told : (l : Location) → told_by area fixed (flat_location l) ≡ code_of area fixed l
  told (Refused r at) = refl
  told NotFound = refl
  told (InArea p) = refl
  told (InFixed p) = refl

  empty : (l : Location) → Exactly (code_of area fixed l ≡ []) (answer_of l ≡ answer.Found → ⊥) → Exactly ((flat_location l).length ≡ 0) ((flat_location l).number ≡ 0 → ⊥)
  empty (Refused r at) e = (λ _. not-zero r, λ _. refl)
  empty NotFound e = (λ _ n. omega arith, λ _. refl)
  empty (InArea p) e = (λ z. absurd (e.0 (ap (λ (n : ℕ). take n (drop p.start area)) z) refl), λ n. absurd (n refl))
  empty (InFixed p) e = (λ z. absurd (e.0 (ap (λ (n : ℕ). take n (drop p.start fixed)) z) refl), λ n. absurd (n refl))

pub lookup_crossing : LookupCrossing
lookup_crossing area fixed index = record { code = told area fixed (location_of area fixed index); empty = empty area fixed (location_of area fixed index) (location_claims.empty_exactly area fixed index) }

pub view_crossing : ViewCrossing
view_crossing = (λ c. refl, λ f. refl)

-- the numbers, by computation
pub refusal_numbers : RefusalNumbers
refusal_numbers = (refl, refl, refl, refl)

pub lookup_numbers : LookupNumbers
lookup_numbers r at p = (refl, refl, refl, refl)

pub step_numbers : StepNumbers
step_numbers index p r at c = (refl, refl, refl, refl)

-- What each command makes of a registration, phase by phase.
use mathlib.Core.Path.{◌≡◌, refl}
use mathlib.Core.Bool.{true, ◌||◌, false≢true}
use mathlib.Core.List.{List}
use Prim.Native.Nat.{ℕ, zero, suc, ◌+◌, ◌-◌, ◌≤◌}
use native.Mathlib.Nat.{add-sub_cancel_left}
use native.Mathlib.Omega.{arith}
use lib.Dec.{leb, ltb, eqb}
use lib.ListN.{length, take, drop, length-take, length-drop}
use borrow.Author.Tests.{leb-true, lt-ltb, le-ltb, eqb-true}
use Rattle.std.specs.Prelude.{Err, is_ok}
use Rattle.words.proofs.Choice.{decide, choose, and_left, and_right}
use Rattle.dump.specs.declared.registration.Phase.{Phase}
use Rattle.dump.specs.declared.registration.Phase.TheVariants.{Unregistered, Registered, Active}
use Rattle.dump.specs.declared.registration.Registration.{Registration}
use Rattle.dump.specs.declared.registration.Refusal.{Refusal}
use Rattle.dump.specs.Structure.{header_size}
use Rattle.dump.specs.Registration.{copy_size, padded, no_registration, registered, structure_at, acceptable, verdict_of, registration_after}

-- an acceptable structure fits into a copy, and stands inside memory
module _ (m : List ℕ) (address len : ℕ) (good : acceptable m address len ≡ true) where
  pub acceptable_short : len ≤ copy_size
  unfolding acceptable
  acceptable_short = leb-true len copy_size (and_left (leb len copy_size) _ (and_right (leb header_size len) _ good))

  pub acceptable_inside : address + len ≤ length m
  unfolding acceptable
  acceptable_inside = leb-true (address + len) (length m) (and_left (leb (address + len) (length m)) _ (and_right (leb len copy_size) _ (and_right (leb header_size len) _ good)))

  -- the registration with a copy of it
  pub registered_is : (copy : List ℕ) → copy ≡ padded (take (address + len - address) (drop address m)) → record { phase = Registered; len = len; copy = copy } ≡ registered (structure_at m address len)
  registered_is copy e =
      let h = acceptable_inside in
      let n : length (structure_at m address len) ≡ len = simp (length-take, length-drop) (omega arith) in
      rw (e, add-sub_cancel_left address len, n)

-- what is refused stays
pub refused_stays : (m : List ℕ) (command address len : ℕ) (r : Registration) (e : Refusal) → verdict_of m command address len r.phase ≡ Err e → registration_after m command address len r ≡ r
unfolding registration_after
refused_stays m command address len r e v = rw v

-- a command that is none of the three fails the first test
pub outside : (command : ℕ) → (command ≡ 1 → ⊥) → (command ≡ 2 → ⊥) → (command ≡ 3 → ⊥) → (ltb command 1 || ltb 3 command) ≡ true
outside zero one two three = refl
outside (suc n) one two three = rw (le-ltb (suc n) 1 (omega arith), lt-ltb 3 (suc n) (omega arith))

-- ---- what a command makes of a registration

-- what command 1 copies is acceptable
done_acceptable : (m : List ℕ) (address len : ℕ) (p : Phase) → is_ok (verdict_of m 1 address len p) ≡ true → acceptable m address len ≡ true
unfolding verdict_of
done_acceptable m address len Active e = absurd (false≢true e)
done_acceptable m address len Registered e = absurd (false≢true e)
done_acceptable m address len Unregistered e = decide (acceptable m address len) (λ a. a) (λ a. absurd (false≢true (rw a at e)))

-- it stays, or is none, or is an acceptable structure's
pub registration_ways : (m : List ℕ) (command address len : ℕ) (r : Registration) (P : Registration → Type 0) → P r → P no_registration
    → (acceptable m address len ≡ true → P (registered (structure_at m address len))) → P (registration_after m command address len r)
unfolding registration_after
registration_ways m command address len r P same gone copied =
    choose (is_ok (verdict_of m command address len r.phase)) P
    (λ d. choose (eqb command 1) P (λ e. copied (done_acceptable m address len r.phase (rw (eqb-true command 1 e) at d))) (λ _. gone))
    (λ _. same)

-- no command makes a length above the copy's
pub registration_short : (m : List ℕ) (command address len : ℕ) (r : Registration) → r.len ≤ copy_size → (registration_after m command address len r).len ≤ copy_size
registration_short m command address len r h =
    registration_ways m command address len r (λ (x : Registration). x.len ≤ copy_size) h (omega arith)
    (λ good. let short = acceptable_short m address len good in simp length-take (omega arith))

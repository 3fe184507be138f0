-- Demand 2 of configure-kernel-dump: the exact condition of each status, and the registration afterwards.
use mathlib.Core.Path.{◌≡◌, refl, ap}
use mathlib.Core.Bool.{Bool, true, false, cond, ◌&&◌, ◌||◌, not, false≢true}
use mathlib.Core.List.{List}
use Prim.Native.Nat.{ℕ, zero, suc, ◌+◌, ◌≤◌}
use native.Mathlib.Omega.{arith}
use lib.Dec.{leb, ltb, eqb}
use lib.ListN.{length}
use borrow.Author.Tests.{eq-eqb, ne_eqb, lt-ltb, le-ltb}
use Rattle.std.specs.Prelude.{Ok, Err, is_ok}
use Rattle.words.specs.Claims.Exactly.{Exactly}
use Rattle.dump.specs.declared.registration.Phase.{Phase}
use Rattle.dump.specs.declared.registration.Phase.TheVariants.{Unregistered, Registered, Active}
use Rattle.dump.specs.declared.registration.Registration.{Registration}
use Rattle.dump.specs.declared.registration.Refusal.TheVariants.{Parameter, AlreadyRegistered, DumpActive}
use Rattle.dump.specs.Structure.{good_structure}
use Rattle.dump.specs.Registration.{Verdict, is_none, is_registered, is_active, acceptable, verdict_of, registration_after, no_registration, padded, registered, structure_at}
use Rattle.calls.specs.Status.{status_word}
use Rattle.calls.specs.Lent.{part_at}
use Rattle.calls.specs.ConfigureDump.{verdict_status, dump_status}
use Rattle.calls.specs.Claims.Terms.{minus}
use Rattle.calls.specs.Claims.ExactDump.{Acceptable, ExactDump}
use Rattle.calls.proofs.Exactly.{equal, at_most, both, either, same}

-- the conditions, over any command, phase and judgement of the structure
abbrev done_if : ℕ → Phase → Bool → Bool
done_if c p a = (eqb c 1 && (is_none p && a)) || ((eqb c 2 && is_registered p) || (eqb c 3 && is_active p))

abbrev ladder : ℕ → Phase → Bool → Verdict
ladder c p a =
    cond (ltb c 1 || ltb 3 c) (Err Parameter)
    (cond (is_active p && leb c 2) (Err DumpActive)
    (cond (is_registered p && eqb c 1) (Err AlreadyRegistered)
    (cond (eqb c 2 && not (is_registered p)) (Err Parameter)
    (cond (eqb c 3 && not (is_active p)) (Err Parameter)
    (cond (eqb c 1 && not a) (Err Parameter)
    (Ok tt))))))

abbrev word : ℕ → Verdict → Bool
word w v = eqb (status_word (verdict_status v)) w

record Agrees (c : ℕ) (p : Phase) (a : Bool) : Type 0 where
  done : word 0 (ladder c p a) ≡ done_if c p a
  already_registered : word 0xffff_fff7 (ladder c p a) ≡ (eqb c 1 && is_registered p)
  dump_active : word 0xffff_fff6 (ladder c p a) ≡ ((eqb c 1 || eqb c 2) && is_active p)

agrees : (c : ℕ) (p : Phase) (a : Bool) → Agrees c p a
agrees zero p a = record { done = refl; already_registered = refl; dump_active = refl }
agrees (suc zero) Unregistered true = record { done = refl; already_registered = refl; dump_active = refl }
agrees (suc zero) Unregistered false = record { done = refl; already_registered = refl; dump_active = refl }
agrees (suc zero) Registered a = record { done = refl; already_registered = refl; dump_active = refl }
agrees (suc zero) Active a = record { done = refl; already_registered = refl; dump_active = refl }
agrees (suc (suc zero)) Unregistered a = record { done = refl; already_registered = refl; dump_active = refl }
agrees (suc (suc zero)) Registered a = record { done = refl; already_registered = refl; dump_active = refl }
agrees (suc (suc zero)) Active a = record { done = refl; already_registered = refl; dump_active = refl }
agrees (suc (suc (suc zero))) Unregistered a = record { done = refl; already_registered = refl; dump_active = refl }
agrees (suc (suc (suc zero))) Registered a = record { done = refl; already_registered = refl; dump_active = refl }
agrees (suc (suc (suc zero))) Active a = record { done = refl; already_registered = refl; dump_active = refl }
agrees (suc (suc (suc (suc c)))) p a = over (suc (suc (suc (suc c)))) (omega arith) p a
  where
    over : (d : ℕ) → 4 ≤ d → (q : Phase) (t : Bool) → Agrees d q t
    over d h q t =
        let one = ne_eqb d 1 (λ e. omega arith) in
        let two = ne_eqb d 2 (λ e. omega arith) in
        let three = ne_eqb d 3 (λ e. omega arith) in
        let large = lt-ltb 3 d (omega arith) in
        let some = le-ltb d 1 (omega arith) in
        record { done = rw (one, two, three, some, large); already_registered = rw (one, some, large); dump_active = rw (one, two, some, large) }

-- one of four
one_of : (v : Verdict) → let s = status_word (verdict_status v) in (s ≡ minus 10 → ⊥) → (s ≡ minus 9 → ⊥) → (s ≡ 0 → ⊥) → s ≡ minus 3
one_of (Ok _) a b c = absurd (c refl)
one_of (Err Parameter) a b c = refl
one_of (Err AlreadyRegistered) a b c = absurd (b refl)
one_of (Err DumpActive) a b c = absurd (a refl)

done_word : (v : Verdict) → is_ok v ≡ word 0 v
done_word (Ok _) = refl
done_word (Err Parameter) = refl
done_word (Err AlreadyRegistered) = refl
done_word (Err DumpActive) = refl

-- ---- the phases and the structure, in the paper's terms

none_exact : (p : Phase) → Exactly (is_none p ≡ true) (p ≡ Unregistered)
none_exact Unregistered = (λ _. refl, λ _. refl)
none_exact Registered = (λ e. absurd (false≢true e), λ e. ap is_none e)
none_exact Active = (λ e. absurd (false≢true e), λ e. ap is_none e)

registered_exact : (p : Phase) → Exactly (is_registered p ≡ true) (p ≡ Registered)
registered_exact Unregistered = (λ e. absurd (false≢true e), λ e. ap is_registered e)
registered_exact Registered = (λ _. refl, λ _. refl)
registered_exact Active = (λ e. absurd (false≢true e), λ e. ap is_registered e)

active_exact : (p : Phase) → Exactly (is_active p ≡ true) (p ≡ Active)
active_exact Unregistered = (λ e. absurd (false≢true e), λ e. ap is_active e)
active_exact Registered = (λ e. absurd (false≢true e), λ e. ap is_active e)
active_exact Active = (λ _. refl, λ _. refl)

acceptable_exact : (m : List ℕ) (address len : ℕ) → Exactly (acceptable m address len ≡ true) (Acceptable m address len)
unfolding acceptable part_at
acceptable_exact m address len =
    let e = both (leb 40 len) _ (at_most 40 len) (both (leb len 512) _ (at_most len 512) (both (leb (address + len) (length m)) (good_structure (structure_at m address len)) (at_most (address + len) (length m)) (λ h. h, λ h. h))) in
    (λ h. let a = e.0 h in record { long = a.0; short = a.1.0; inside = a.1.1.0; good = a.1.1.1 }, λ a. e.1 (a.long, (a.short, (a.inside, a.good))))

module _ (m : List ℕ) (command address len : ℕ) (r : Registration) where
  abbrev status : ℕ
  status = status_word (dump_status m command address len r)

  abbrev phase : Phase
  phase = r.phase

  abbrev next : Registration
  next = registration_after m command address len r

  -- the registration afterwards, by whether the status is 0
  after_done : status ≡ 0 → next ≡ cond (eqb command 1) (registered (structure_at m address len)) no_registration
  unfolding dump_status registration_after
  after_done e = rw (done_word (verdict_of m command address len phase), eq-eqb status 0 e)

  after_refused : (status ≡ 0 → ⊥) → next ≡ r
  unfolding dump_status registration_after
  after_refused n = rw (done_word (verdict_of m command address len phase), ne_eqb status 0 n)

  pub exact_dump : ExactDump m command address len status r next
  unfolding dump_status verdict_of part_at padded
  exact_dump =
      let a = agrees command phase (acceptable m address len) in
      let is : (n : ℕ) → Exactly (eqb command n ≡ true) (command ≡ n) = equal command in
      record {
        dump_active = same (eqb status 0xffff_fff6) _ a.dump_active (equal status 0xffff_fff6) (both (eqb command 1 || eqb command 2) (is_active phase) (either (eqb command 1) (eqb command 2) (is 1) (is 2)) (active_exact phase));
        already_registered = same (eqb status 0xffff_fff7) _ a.already_registered (equal status 0xffff_fff7) (both (eqb command 1) (is_registered phase) (is 1) (registered_exact phase));
        done = same (eqb status 0) _ a.done (equal status 0)
            (either (eqb command 1 && (is_none phase && acceptable m address len)) _
            (both (eqb command 1) _ (is 1) (both (is_none phase) _ (none_exact phase) (acceptable_exact m address len)))
            (either (eqb command 2 && is_registered phase) (eqb command 3 && is_active phase) (both (eqb command 2) (is_registered phase) (is 2) (registered_exact phase)) (both (eqb command 3) (is_active phase) (is 3) (active_exact phase))));
        otherwise = one_of (verdict_of m command address len phase);
        registers = λ e c. rw (after_done e, eq-eqb command 1 c) (record { in_phase = refl; size = refl; copy = refl });
        ends = λ e n. rw (after_done e, ne_eqb command 1 n) (record { in_phase = refl; size = refl; copy = refl });
        keeps = after_refused;
      }

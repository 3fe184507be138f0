-- A run over the C boundary: each number and status exactly when, and the registration handed on.
use mathlib.Core.Path.{◌≡◌, refl, ap, ◌∙◌}
use mathlib.Core.Bool.{true, false}
use mathlib.Core.List.{List}
use mathlib.Core.Logic.{◌⊎◌, inl, inr, ⊎_elim}
use Prim.Native.Nat.{ℕ, zero, suc, ◌≤◌, ◌<◌}
use native.Mathlib.Omega.{arith}
use lib.Dec.{leb}
use borrow.Author.Tests.{leb-false}
use Rattle.words.specs.Claims.Exactly.{Exactly}
use Rattle.words.proofs.Choice.{decide, choose}
use Rattle.dump.specs.declared.registration.Phase.TheVariants.{Registered, Active}
use Rattle.dump.specs.declared.registration.Registration.{Registration}
use Rattle.dump.specs.declared.registration.Refusal.TheVariants.{Parameter, AlreadyRegistered, DumpActive}
use Rattle.std.specs.Prelude.{Ok, Err, is_ok}
use Rattle.calls.specs.Status.{status_word}
use Rattle.calls.specs.ConfigureDump.{verdict_status}
use Rattle.crossing.specs.declared.registration.FlatRegistration.{FlatRegistration}
use Rattle.crossing.specs.Registration.{phase_number, phase_of, flat_of, registration_of, is_registration}
use Rattle.crossing.proofs.Registrations.{bounds, same, flat_is}
use Rattle.dump.specs.Registration.{Verdict}
use Rattle.dumping.specs.Running.{Run, run_of, run_verdict}
use Rattle.dumping.proofs.RunClaims.{run_claims}
use Rattle.draugsten_dump.specs.Running.{flat_leaves, flat_run_of}
use Rattle.draugsten_dump.specs.Claims.Dump.{FlatExactly, EachFlatRun, RunHandedOn}

-- ---- statuses as words

abbrev word : Verdict → ℕ
word v = status_word (verdict_status v)

done_word : (v : Verdict) → Exactly (word v ≡ 0) (v ≡ Ok tt)
done_word (Ok _) = (λ _. refl, λ _. refl)
done_word (Err Parameter) = (λ e. absurd (omega arith), λ e. ap word e)
done_word (Err AlreadyRegistered) = (λ e. absurd (omega arith), λ e. ap word e)
done_word (Err DumpActive) = (λ e. absurd (omega arith), λ e. ap word e)

active_word : (v : Verdict) → Exactly (word v ≡ 0xffff_fff6) (v ≡ Err DumpActive)
active_word (Ok _) = (λ e. absurd (omega arith), λ e. ap word e)
active_word (Err Parameter) = (λ e. absurd (omega arith), λ e. ap word e)
active_word (Err AlreadyRegistered) = (λ e. absurd (omega arith), λ e. ap word e)
active_word (Err DumpActive) = (λ _. refl, λ _. refl)

-- ---- phases as numbers, up to 2

active_phase : (n : ℕ) → n ≤ 2 → Exactly (phase_of n ≡ Active) (n ≡ 2)
active_phase zero h = (λ e. absurd (let z : ◌≡◌ {A = ℕ} 0 2 = ap phase_number e in omega arith), λ e. absurd (omega arith))
active_phase (suc zero) h = (λ e. absurd (let z : ◌≡◌ {A = ℕ} 1 2 = ap phase_number e in omega arith), λ e. absurd (omega arith))
active_phase (suc (suc zero)) h = (λ _. refl, λ _. refl)
active_phase (suc (suc (suc n))) h = absurd (omega arith)

registered_phase : (n : ℕ) → n ≤ 2 → Exactly (phase_of n ≡ Registered) (n ≡ 1)
registered_phase zero h = (λ e. absurd (let z : ◌≡◌ {A = ℕ} 0 1 = ap phase_number e in omega arith), λ e. absurd (omega arith))
registered_phase (suc zero) h = (λ _. refl, λ _. refl)
registered_phase (suc (suc zero)) h = (λ e. absurd (let z : ◌≡◌ {A = ℕ} 2 1 = ap phase_number e in omega arith), λ e. absurd (omega arith))
registered_phase (suc (suc (suc n))) h = absurd (omega arith)

-- what is no registration has a phase or a length that is too large
too_large : (f : FlatRegistration) → is_registration f ≡ false → (2 < f.phase) ⊎ (512 < f.length)
unfolding is_registration
too_large f e = decide (leb f.phase 2)
    (λ t. inr (leb-false f.length 512 (rw t at e)))
    (λ t. inl (leb-false f.phase 2 t))

not_large : (f : FlatRegistration) → is_registration f ≡ true → (2 < f.phase) ⊎ (512 < f.length) → ⊥
not_large f e o = let b = bounds f e in ⊎_elim (λ (h : 2 < f.phase). omega (arith, b, h)) (λ (h : 512 < f.length). omega (arith, b, h)) o

-- ---- a run, where a registration is given, and where none is

module _ (platform memory : List ℕ) (f : FlatRegistration) where
  abbrev x : Run
  x = run_of platform memory (registration_of f)

  given : is_registration f ≡ true → flat_run_of platform memory f ≡ flat_leaves 0 (word x.verdict) x.memory (flat_of x.next)
  unfolding flat_run_of
  given e = rw e

  not_given : is_registration f ≡ false → flat_run_of platform memory f ≡ flat_leaves 13 0xffff_fffd memory f
  unfolding flat_run_of
  not_given e = rw e

  exactly_given : is_registration f ≡ true → FlatExactly platform memory f (flat_leaves 0 (word x.verdict) x.memory (flat_of x.next))
  exactly_given is =
      let b = bounds f is in
      let exact = run_claims.each_verdict platform memory (registration_of f) in
      let done = done_word x.verdict in
      let active = active_word x.verdict in
      record {
        no_registration_claim = (λ e. absurd (omega arith), λ o. absurd (not_large f is o));
        otherwise = λ _. refl;
        active = λ _. (λ e. (active_phase f.phase b.0).0 (exact.active.0 (active.0 e)), λ e. active.1 (exact.active.1 ((active_phase f.phase b.0).1 e)));
        done = λ _. (
          λ e. let d = exact.done.0 (done.0 e) in ((registered_phase f.phase b.0).0 d.0, d.1.1),
          λ h. done.1 (exact.done.1 ((registered_phase f.phase b.0).1 h.0, (b.1, h.1))),
        );
        parameter = λ a d. ap word (exact.otherwise (λ e. a (active.1 e)) (λ e. d (done.1 e)));
        refused = λ d. let k = exact.refused (λ e. d (done.1 e)) in (k.0, ap flat_of k.1 ∙ same f (bounds f is).0);
        becomes_active = λ e. let k = exact.becomes_active (done.0 e) in (ap phase_number k.0, k.1);
        ran = λ e b. run_claims.each_section_claim platform memory (registration_of f) b (done.0 e);
        status_of_13 = λ e. absurd (omega arith);
      }

  exactly_not : is_registration f ≡ false → FlatExactly platform memory f (flat_leaves 13 0xffff_fffd memory f)
  exactly_not is =
      record {
        no_registration_claim = (λ _. too_large f is, λ _. refl);
        otherwise = λ n. absurd (n refl);
        active = λ e. absurd (omega arith);
        done = λ e. absurd (omega arith);
        parameter = λ a d. refl;
        refused = λ d. (refl, refl);
        becomes_active = λ e. absurd (omega arith);
        ran = λ e. absurd (omega arith);
        status_of_13 = λ _. refl;
      }

pub each_flat_run : EachFlatRun
each_flat_run platform memory f = decide (is_registration f)
    (λ is. rw (given platform memory f is) (exactly_given platform memory f is))
    (λ is. rw (not_given platform memory f is) (exactly_not platform memory f is))

-- a run keeps the length of the copy
run_length : (platform memory : List ℕ) (r : Registration) → (run_of platform memory r).next.len ≡ r.len
unfolding run_of
run_length platform memory r = choose (is_ok (run_verdict r)) (λ (y : Run). y.next.len ≡ r.len) (λ _. refl) (λ _. refl)

pub run_handed_on : RunHandedOn
run_handed_on platform memory f n = decide (is_registration f)
    (λ is. rw (given platform memory f is)
    (bounds (flat_of (run_of platform memory (registration_of f)).next) (flat_is (run_of platform memory (registration_of f)).next (rw (run_length platform memory (registration_of f)) (bounds f is).1))))
    (λ is. absurd (n (rw (not_given platform memory f is))))

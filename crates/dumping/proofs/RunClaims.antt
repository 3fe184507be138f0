-- What is claimed of the run of a dump holds.
use mathlib.Core.Path.{◌≡◌, refl, sym, ◌∙◌}
use mathlib.Core.Bool.{Bool, true, false, cond, ◌&&◌}
use mathlib.Core.List.{List}
use mathlib.Core.Logic.{inr}
use Prim.Native.Nat.{ℕ, ◌+◌, ◌*◌, ◌%◌, ◌≤◌, ◌<◌}
use native.Mathlib.Omega.{arith}
use lib.Dec.{leb}
use lib.ListN.{length, take}
use lib.Seq.{sets, length-sets}
use borrow.Author.Tests.{leb-true, le-leb, ne_eqb}
use Rattle.words.specs.Claims.Exactly.{Exactly}
use Rattle.words.specs.Numbers.{Bytes, be, be_bytes}
use Rattle.words.proofs.Choice.{decide, and_left, and_right}
use Rattle.words.proofs.Stores.{be_stored}
use Rattle.dump.specs.declared.registration.Phase.{Phase}
use Rattle.dump.specs.declared.registration.Phase.TheVariants.{Unregistered, Registered, Active}
use Rattle.dump.specs.declared.registration.Registration.{Registration}
use Rattle.dump.specs.declared.registration.Refusal.TheVariants.{Parameter, DumpActive}
use Rattle.std.specs.Prelude.{Ok, Err, is_ok}
use Rattle.dump.specs.Structure.{header_size, section_size, sections, first_section, good_structure}
use Rattle.dump.specs.Registration.{Verdict, copy_size, is_registered, is_active}
use Rattle.dumping.specs.Section.{actual_length}
use Rattle.dumping.specs.Running.{structure_run, good_copy, run_verdict, run_of}
use Rattle.dumping.specs.Claims.Run.{count, place, section_of, errors_in, actual_in, SectionExactly, InOrder, MemoryKept, CopyKept, StatusFlags, Ran, EachVerdict, EachSection, RunClaims}
use Rattle.dumping.proofs.Claims.{section_claims}
use Rattle.dumping.proofs.Runs.{not_asked, good_bounds, run_kept, run_done}
use Rattle.dumping.proofs.OneSection.{asked_errors, asked_actual}
use Rattle.dumping.proofs.SectionRuns.{number_beside, same_number, errors, actual, memories, copies, failures, memories_size, each_copies, memories_kept, copies_size, copies_kept, errors_told, actual_told, no_failure, failure, sections_ran}

-- ---- the verdict

-- what a phase and the judgement of the copy come to
record Judged (p : Phase) (good : Bool) (v : Verdict) : Type 0 where
  active : Exactly (v ≡ Err DumpActive) (p ≡ Active)
  done : Exactly (v ≡ Ok tt) ((p ≡ Registered) × (good ≡ true))
  otherwise : (v ≡ Err DumpActive → ⊥) → (v ≡ Ok tt → ⊥) → v ≡ Err Parameter

judged : (p : Phase) (good : Bool) → Judged p good (cond (is_active p) (Err DumpActive) (cond (is_registered p && good) (Ok tt) (Err Parameter)))
judged Unregistered good = record { active = (λ e. cc, λ e. cc); done = (λ e. (cc, cc), λ h. cc); otherwise = λ a d. refl }
judged Registered true = record { active = (λ e. cc, λ e. cc); done = (λ e. (refl, refl), λ h. refl); otherwise = λ a d. absurd (d refl) }
judged Registered false = record { active = (λ e. cc, λ e. cc); done = (λ e. (cc, cc), λ h. cc); otherwise = λ a d. refl }
judged Active good = record { active = (λ e. refl, λ e. refl); done = (λ e. (cc, cc), λ h. cc); otherwise = λ a d. absurd (a refl) }

judged_run : (r : Registration) → Judged r.phase (good_copy r.copy r.len) (run_verdict r)
unfolding run_verdict
judged_run r = judged r.phase (good_copy r.copy r.len)

good_exactly : (copy : List ℕ) (len : ℕ) → Exactly (good_copy copy len ≡ true) ((len ≤ 512) × (good_structure (take len copy) ≡ true))
unfolding good_copy
good_exactly copy len =
    (λ e. (leb-true len copy_size (and_left (leb len copy_size) _ e), and_right (leb len copy_size) _ e), λ h. rw (le-leb len copy_size h.0) h.1)

not_done : (v : Verdict) → (v ≡ Ok tt → ⊥) → is_ok v ≡ false
not_done (Ok _) h = absurd (h refl)
not_done (Err _) h = refl

verdict_is : (platform memory : List ℕ) (r : Registration) → (run_of platform memory r).verdict ≡ run_verdict r
unfolding run_of
verdict_is platform memory r = decide (is_ok (run_verdict r)) (λ t. rw t) (λ f. rw f)

each_verdict : EachVerdict
each_verdict platform memory r =
    let v = verdict_is platform memory r in
    let j = judged_run r in
    let good = good_exactly r.copy r.len in
    record {
      active = rw v j.active;
      done = (λ e. let d = j.done.0 (sym v ∙ e) in (d.0, good.0 d.1), λ h. v ∙ j.done.1 (h.0, good.1 h.1));
      otherwise = rw v j.otherwise;
      refused = λ d. rw (run_kept platform memory r (not_done (run_verdict r) (λ e. d (v ∙ e)))) (refl, refl);
      becomes_active = λ e. rw (run_done platform memory r (sym v ∙ e)) (refl, refl);
    }

-- ---- a run of a good structure

module _ (platform memory copy : List ℕ) where
  -- what the sections leave: memory, and the copy without its status flags
  abbrev left : List ℕ
  left = memories platform memory copy (count copy)

  abbrev told : List ℕ
  told = copies platform memory copy (count copy)

  abbrev failed : Bool
  failed = failures platform memory copy (count copy)

  abbrev status : ℕ
  status = 32_768 + cond failed 8192 0

  abbrev after : List ℕ
  after = sets told 6 (be_bytes 2 status)

  structure_ran : structure_run platform memory copy ≡ record { memory = left; copy = after; failed = failed }
  unfolding structure_run
  structure_ran = rw (sections_ran platform memory copy (count copy))

  module _ (bytes : Bytes copy) (bounds : (header_size ≤ first_section copy) × (first_section copy + section_size * sections copy ≤ length copy)) where
    -- the status flags stand before the sections
    behind : (w p : ℕ) → header_size ≤ p → be w after p ≡ be w told p
    behind w p h = same_number after told w p (λ i l u. number_beside 2 status told 6 i (inr (omega arith)))

    errors_after : (k : ℕ) → k < count copy → errors_in copy after k ≡ errors platform memory copy k
    errors_after k h = behind 2 (place copy k + 6) (omega arith) ∙ errors_told platform memory copy k (count copy) h bounds.1

    actual_after : (k : ℕ) → k < count copy → actual_in copy after k ≡ actual platform memory copy k
    actual_after k h = behind 8 (place copy k + 24) (omega arith) ∙ actual_told platform memory copy k (count copy) h bounds.1 bytes

    section_exactly : (k : ℕ) → k < count copy → SectionExactly platform memory copy after k
    unfolding actual_length
    section_exactly k h =
        let x = section_of copy k in
        record {
          flags = λ a source r. rw (errors_after k h ∙ asked_errors platform memory x source a r) (section_claims.each_flag (length source) (length memory) x);
          actual = λ a source r. actual_after k h ∙ asked_actual platform memory x source a r;
          unasked = λ u. let none = not_asked platform memory x (ne_eqb x.request 1 u) in (errors_after k h ∙ sym none.flags, actual_after k h ∙ sym none.bytes);
        }

    in_order : InOrder platform memory left copy after
    unfolding memories
    in_order = record { memories = memories platform memory copy; first = refl; last = refl; each = λ k h. rw (actual_after k h) (each_copies platform memory copy k) }

    memory_kept : MemoryKept memory left copy after
    memory_kept i o = memories_kept platform memory copy (count copy) i (λ k h. rw (actual_after k h) at (o k h))

    copy_kept : CopyKept copy after
    unfolding copies
    copy_kept i o b = number_beside 2 status told 6 i o ∙ copies_kept platform memory copy 0 (count copy) i (omega arith) (λ k _ h. b k h)

    status_told : be 2 after 6 ≡ status % 0x1_0000
    status_told = be_stored told 2 status 6 (omega (arith, copies_size platform memory copy (count copy)))

    status_flags_claim : StatusFlags copy after
    status_flags_claim = record {
      without = λ none. status_told ∙ rw (no_failure platform memory copy (count copy) (λ k h. sym (errors_after k h) ∙ none k h));
      with_error = λ k h some. status_told ∙ rw (failure platform memory copy (count copy) k h (λ e. some (errors_after k h ∙ e)));
    }

    ran : Ran platform memory left copy after
    ran = record {
      sections = section_exactly;
      in_order = in_order;
      memory_size = memories_size platform memory copy (count copy);
      memory_kept = memory_kept;
      copy_size_claim = length-sets told 6 (be_bytes 2 status) ∙ copies_size platform memory copy (count copy);
      copy_kept = copy_kept;
      status_flags_claim = status_flags_claim;
    }

each_section_claim : EachSection
each_section_claim platform memory r bytes e =
    let v : run_verdict r ≡ Ok tt = sym (verdict_is platform memory r) ∙ e in
    let bounds = good_bounds r.copy r.len ((judged_run r).done.0 v).1 in
    rw (run_done platform memory r v, structure_ran platform memory r.copy) (ran platform memory r.copy bytes bounds)

pub run_claims : RunClaims
run_claims = record { each_verdict = each_verdict; each_section_claim = each_section_claim }

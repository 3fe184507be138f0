-- What an intake tells over the C boundary: of a state that does not fit, of a burst, and of an end.
use mathlib.Core.Path.{◌≡◌, refl, ap, sym, ◌∙◌}
use mathlib.Core.Bool.{true, true≢false, false≢true}
use mathlib.Core.List.{List, []}
use Prim.Native.Nat.{ℕ, ◌≤◌}
use native.Mathlib.Omega.{arith}
use lib.Dec.{eqb}
use lib.ListN.{length, take}
use lib.Seq.{length-take-le}
use borrow.Author.Tests.{le-leb, ne_eqb}
use Rattle.std.specs.Prelude.{is_some}
use Rattle.words.proofs.Choice.{decide}
use Rattle.records.specs.Cutting.{due, ripe, Standing}
use Rattle.tallies.specs.Keeping.{one_record}
use Rattle.tallies.proofs.Outcomes.{attach_judged}
use Rattle.tallies.proofs.KeptLaws.{counted_fits}
use Rattle.intake.specs.Taking.{good_front, Taking}
use Rattle.intake.specs.Bursts.{Ready, end_of}
use Rattle.intake.proofs.Fronts.{due_size, due_four}
use Rattle.draugsten_tallies.specs.declared.intakes.FlatIntake.{FlatIntake}
use Rattle.draugsten_tallies.specs.declared.intakes.FlatEnd.{FlatEnd}
use Rattle.draugsten_tallies.specs.Flat.{tallied_from}
use Rattle.draugsten_tallies.specs.Intakes.{fault_from, intake_from, state_number, answering, flat_end, end_answer}
use Rattle.draugsten_tallies.specs.Claims.Intakes.{EachStart, FitsAsAppend, KeptTaken, JournalChanged, EachMisfit, EachBurst, StartsExactly, EachBurstRefused, EachEndAnswer, IntakeCrossing}
use Rattle.draugsten_tallies.proofs.IntakeCrossed.{each_intake_crosses, each_intake_comes, returns, faults_taken, each_state, start_taken, left_taken}
use Rattle.draugsten_tallies.proofs.Answers.{end_refused, end_taken}

-- ---- a state

each_start : EachStart
each_start t = record { journal = refl; number = refl; held = refl; fault = refl }

fits_as_append : FitsAsAppend
fits_as_append buffer r t = let u = (attach_judged buffer t r (one_record r)).unfit in (u.1, u.0)

kept_taken : KeptTaken
kept_taken store s l k = start_taken s.buffer store s.journal l (counted_fits s k)

journal_changed : JournalChanged
journal_changed buffer bufferThen store f t e fit =
    let r = (each_state buffer store (intake_from f)).taken.0 e in
    (each_state bufferThen store (intake_from (record { journal = t; number = f.number; held = f.held; fault = f.fault }))).taken.1
    (record { room = r.room; inside = r.inside; raw = r.raw; quiet = r.quiet; numbered = r.numbered; fit = fit; real = r.real })

fault_not_done : (n : ℕ) → (n ≡ 0 → ⊥) → is_some (fault_from n) ≡ true
fault_not_done n some = rw (ne_eqb n 0 some) (decide (eqb n 50) (λ a. rw a) (λ a. decide (eqb n 51) (λ b. rw (a, b)) (λ b. rw (a, b))))

-- held bytes that are due are no unfinished record
held_due : (store : List ℕ) (held : ℕ) → held ≤ length store → due good_front (take held store) ≤ held → ripe good_front (take held store) ≡ true
unfolding ripe
held_due store held inside l = le-leb (due good_front (take held store)) (length (take held store)) (omega (arith, length-take-le held store inside))

each_misfit : EachMisfit
each_misfit buffer store f l =
    let misfit : (Ready buffer store (intake_from f) → ⊥) → state_number store (length buffer) (intake_from f) ≡ 54 = λ no. (each_state buffer store (intake_from f)).unfit.1 (l, no) in
    let ripened : due good_front (take f.held store) ≤ f.held → state_number store (length buffer) (intake_from f) ≡ 54 = λ d. misfit (λ r. false≢true (sym r.raw ∙ held_due store f.held r.inside d)) in
    record {
      no_number = λ z. misfit (λ r. omega (arith, r.numbered));
      no_fault = λ a b c. misfit (λ r. r.real (faults_taken f a b c));
      fault_held = λ some h. misfit (λ r. h (r.quiet (fault_not_done f.fault some)));
      too_many = λ m. misfit (λ r. omega (arith, r.inside));
      whole = λ good m. ripened (omega (arith, due_size (take f.held store) good));
      front = λ m bad. ripened (omega (arith, due_four (take f.held store) bad));
      unfit = λ u. misfit (λ r. true≢false (sym r.fit ∙ (fits_as_append buffer [] (tallied_from f.journal)).1 u));
    }

-- ---- a burst

each_burst : EachBurst
each_burst buffer store bytes bufferThen storeThen i r b e =
    let t = b.taken e in
    let c = each_intake_comes r.intake in
    let s = t.bursts.same in
    let fault = ap (λ (x : Standing Taking). x.state.fault) s in
    let next = ap (λ (x : Standing Taking). x.state.number) s in
    let journal = ap (λ (x : Standing Taking). x.state.journal) s in
    record {
      none = (λ d. t.number ∙ c.none.0 (fault ∙ d), λ z. sym fault ∙ c.none.1 (sym t.number ∙ z));
      malformed = (λ d. t.number ∙ c.malformed.0 (fault ∙ d), λ z. sym fault ∙ c.malformed.1 (sym t.number ∙ z));
      no_room = (λ d. t.number ∙ c.no_room.0 (fault ∙ d), λ z. sym fault ∙ c.no_room.1 (sym t.number ∙ z));
      in_none = t.none;
      in_fault = λ some. t.record_is some ∙ next;
      again = sym t.number;
      next = next;
      held = ap (λ (x : Standing Taking). x.held) s;
      store_is = t.bursts.whole;
      kept = λ n. t.bursts.kept (fault_not_done i.fault n);
      buffer_is = ap (λ (x : Standing Taking). x.state.buffer) s;
      journal = rw (sym journal) c.journal;
    }

starts_exactly : StartsExactly
starts_exactly = record { starts = λ s. refl; stands = λ s held. refl; size = λ b. refl }

each_burst_refused : EachBurstRefused
each_burst_refused buffer store bytes bufferThen storeThen i r b n = let t = b.refused n in (t.number, (t.record_is, (t.intake, (t.buffer_same, t.store_same))))

-- ---- an end

module _ (buffer store : List ℕ) (f : FlatIntake) where
  abbrev answer : FlatEnd
  answer = end_answer (length buffer) store f

  both : (number n : ℕ) → answering number n ≡ answer → (answer.number ≡ number) × (answer.in_record ≡ n)
  both number n e = (sym (ap (λ (x : FlatEnd). x.number) e), sym (ap (λ (x : FlatEnd). x.in_record) e))

  refused_end : (number : ℕ) → number ≡ state_number store (length buffer) (intake_from f) → (number ≡ 0 → ⊥) → (answer.number ≡ number) × (answer.in_record ≡ 0)
  refused_end number said some = both number 0 (end_refused store f refl (length buffer) said some)

  taken_end : (number n : ℕ) → Ready buffer store (intake_from f) → flat_end (end_of (intake_from f)) ≡ answering number n → (answer.number ≡ number) × (answer.in_record ≡ n)
  taken_end number n r e = both number n (sym e ∙ end_taken store f refl (length buffer) refl ((each_state buffer store (intake_from f)).taken.1 r) refl)

each_end : EachEndAnswer
each_end buffer store f =
    let s = each_state buffer store (intake_from f) in
    record {
      small = λ l. refused_end buffer store f 55 (sym (s.small.1 l)) (λ z. omega arith);
      unfit = λ l no. refused_end buffer store f 54 (sym (s.unfit.1 (l, no))) (λ z. omega arith);
      nothing = λ r z h. taken_end buffer store f 0 0 r (rw (z, h));
      unfinished = λ r z h. taken_end buffer store f 53 f.number r (rw (z, ne_eqb f.held 0 h));
      malformed = λ r z. taken_end buffer store f 50 f.number r (rw z);
      no_room = λ r z. taken_end buffer store f 51 f.number r (rw z);
    }

pub intake_crossing : IntakeCrossing
intake_crossing = record {
  each_crosses = each_intake_crosses;
  each_comes = each_intake_comes;
  returns = returns;
  faults_taken = faults_taken;
  each_start = each_start;
  each_state = each_state;
  each_misfit = each_misfit;
  fits_as_append = fits_as_append;
  start_taken = start_taken;
  kept_taken = kept_taken;
  left_taken = left_taken;
  journal_changed = journal_changed;
  each_burst = each_burst;
  starts_exactly = starts_exactly;
  each_burst_refused = each_burst_refused;
  each_end = each_end;
}

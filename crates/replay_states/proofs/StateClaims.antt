-- Which states are taken at the C boundary, exactly.
use mathlib.Core.Path.{◌≡◌, refl}
use mathlib.Core.Bool.{true, false, cond, and-false}
use mathlib.Core.List.{List}
use mathlib.Core.Logic.{◌⊎◌, ⊎_elim}
use Prim.Native.Nat.{ℕ, suc, ◌+◌, ◌-◌, ◌≤◌, ◌<◌}
use native.Mathlib.Omega.{arith}
use lib.Dec.{leb}
use lib.ListN.{length, take}
use borrow.Author.Tests.{le-leb, lt-leb, lt-ltb, le-ltb, ne_eqb}
use Rattle.words.specs.Claims.Exactly.{Exactly}
use Rattle.words.proofs.Exactly.{equal, at_most, both, either}
use Rattle.words.specs.Numbers.{le}
use Rattle.records.specs.Records.{length_of, kind_of}
use Rattle.records.specs.Cutting.{due, ripe}
use Rattle.inventory.specs.declared.edition.Edition.{Edition}
use Rattle.calls.specs.declared.reading_record.ReadingRecord.{ReadingRecord}
use Rattle.dump.specs.declared.registration.Registration.{Registration}
use Rattle.dump.specs.declared.registration.Phase.TheVariants.{Active}
use Rattle.calls.specs.GetIndices.{askable}
use Rattle.crossing.specs.Registration.{phase_of, registration_of}
use Rattle.trace.proofs.StepClaims.{front}
use Rattle.trace.specs.declared.report.Report.{Report}
use Rattle.trace.specs.declared.report.Report.TheVariants.{Agreed, Differs, Malformed}
use Rattle.trace.specs.Trace.{good_frame}
use Rattle.trace.specs.Came.{registration_came, reading_came, came}
use Rattle.replay_states.specs.declared.state.FlatReplay.{FlatReplay}
use Rattle.replay_states.specs.States.{flat_report_of, report_of, is_report, held_came, is_state, judged_by}
use Rattle.replay_states.specs.Claims.States.{ReportsExactly, StatesExactly}

same : {P : Type 0} → Exactly P P
same = (λ p. p, λ p. p)

reports : (records waits least : ℕ) → ReportsExactly records waits least
reports records waits least = record {
  agreed = λ n. both (at_most _ _) (at_most _ _);
  differs = λ n at. both (equal _ _) (both (at_most _ _) (both (at_most _ _) (both (at_most _ _) (at_most _ _))));
  malformed = λ n. both (equal _ _) (at_most _ _);
}

came_back : (x : Report) → report_of (flat_report_of x) ≡ x
unfolding report_of
came_back (Agreed n) = refl
came_back (Differs n at) = refl
came_back (Malformed n) = refl

-- the numbers of refusals
module _ (held : List ℕ) (room : ℕ) (f : FlatReplay) (h : 4104 ≤ length held) (g : 4100 ≤ room) where
  taken : is_state f ≡ true → ripe good_frame (take f.held held) ≡ false → judged_by held room f ≡ 0
  unfolding judged_by
  taken s q = rw (le-leb 4104 (length held) h, le-leb 4100 room g, s, q)

  not_taken : (is_state f ≡ false) ⊎ (ripe good_frame (take f.held held) ≡ true) → judged_by held room f ≡ 14
  unfolding judged_by
  not_taken o = rw (le-leb 4104 (length held) h, le-leb 4100 room g)
      (⊎_elim (λ (s : is_state f ≡ false). rw s) (λ (q : ripe good_frame (take f.held held) ≡ true). simp (q, and-false)) o)

-- an active registration, or a phase that is none, comes of no replay
active : (r : Registration) → r.phase ≡ Active → registration_came r ≡ false
unfolding registration_came
active r e = rw e

no_phase : (f : FlatReplay) → 1 < f.registration.phase → is_state f ≡ false
unfolding is_state came
no_phase f h =
    let two : phase_of f.registration.phase ≡ Active = rw (ne_eqb f.registration.phase 0 (λ e. omega arith), ne_eqb f.registration.phase 1 (λ e. omega arith)) in
    simp (active (registration_of f.registration) two, and-false)

no_flag : (e : Edition) (d : ReadingRecord) → 1 < d.number.0 → 1 < d.flag → reading_came e d ≡ false
unfolding reading_came askable
no_flag e d h g = simp (lt-ltb 1 d.number.0 h, lt-leb d.flag 1 g, and-false)

record_made : (r : List ℕ) → ripe good_frame r ≡ leb (4 + cond (good_frame (le 2 r 0) (le 2 r 2)) (le 2 r 0 - 2) 0) (length r)
unfolding ripe due length_of kind_of
record_made r = refl

pub states_exactly : StatesExactly
unfolding is_state is_report held_came came registration_came reading_came judged_by
states_exactly = record {
  state = λ f. both same (both same same);
  report = λ f. (λ e. rw e, λ n. rw (ne_eqb f.verdict 1 n) (both (at_most _ _) (equal _ _)));
  held = λ verdict n. either (equal _ _) (both (equal _ _) (at_most _ _));
  rules = λ e records waiting x r d. both (at_most _ _) (both (at_most _ _) (both same (both same same)));
  least = λ r d. ((λ e. ((λ h. rw (e, lt-ltb 1 d.number.0 h)), (λ h. rw (e, le-ltb 1 d.number.0 h)))), (λ e. ((λ h. rw (e, lt-ltb 1 d.number.0 h)), (λ h. rw (e, le-ltb 1 d.number.0 h)))));
  waits = (refl, λ n. rw (ne_eqb (suc n) 0 (λ e. omega arith)));
  reports = reports;
  none = λ r e. rw e (both (equal _ _) same);
  registered = λ r e. rw e (both (at_most _ _) (both same same));
  active = active;
  phase = no_phase;
  flag = no_flag;
  front = front;
  record_made = record_made;
  reading = λ e d h. rw (lt-ltb 1 d.number.0 h) (both (at_most _ _) (both same (equal _ _)));
  no_reading_claim = λ e d h. rw (le-ltb 1 d.number.0 h) (both (equal _ _) (both (equal _ _) (both (equal _ _) (equal _ _))));
  no_room = λ held room f o. ⊎_elim (λ h. rw (lt-leb 4104 _ h)) (λ h. simp (lt-leb 4100 room h, and-false)) o;
  taken = λ held room f h g s q. taken held room f h g s q;
  not_taken = λ held room f h g o. not_taken held room f h g o;
  told = λ n at. (refl, (refl, refl));
  came_back = came_back;
}

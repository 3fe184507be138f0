-- A replay over the C boundary and back, and what a state that is taken gives.
use Rattle.std.specs.Prelude.{Option, Some, None, IfSome}
use mathlib.Core.Path.{◌≡◌, refl, sym, ap, ◌∙◌}
use mathlib.Core.Bool.{Bool, true, false, cond, ◌&&◌, not, false≢true}
use mathlib.Core.List.{List}
use Prim.Native.Nat.{ℕ, zero, suc, ◌+◌, ◌-◌, ◌≤◌}
use native.Mathlib.Omega.{arith}
use lib.Dec.{leb, ltb, eqb}
use lib.ListN.{length, take, drop}
use lib.Seq.{length-take-le}
use borrow.Author.Tests.{leb-true, leb-false, le-leb, eqb-true, eqb-false, ne_eqb}
use Rattle.words.proofs.Choice.{decide, and_left, and_right}
use Rattle.records.specs.Cutting.{due, ripe}
use Rattle.records.proofs.Due.{due_least}
use Rattle.dump.specs.declared.registration.Phase.{Phase}
use Rattle.dump.specs.declared.registration.Phase.TheVariants.{Unregistered, Registered, Active}
use Rattle.dump.specs.declared.registration.Registration.{Registration}
use Rattle.dump.specs.Registration.{is_registered}
use Rattle.crossing.specs.Registration.{phase_number, phase_of, flat_of, registration_of}
use Rattle.crossing.specs.Record.{reading_of}
use Rattle.trace.specs.declared.report.Report.{Report}
use Rattle.trace.specs.declared.report.Report.TheVariants.{Agreed, Differs, Malformed}
use Rattle.trace.specs.Trace.{good_frame}
use Rattle.trace.specs.Playing.{is_over, agreed}
use Rattle.trace.specs.Came.{calls_for, waits_in, waiting_number, report_came, registration_came, reading_came, came, state_came}
use Rattle.trace.proofs.Reader.{due_most}
use Rattle.counting.specs.declared.counts.Counts.{Counts}
use Rattle.counting.specs.Counts.{no_counts}
use Rattle.counting.specs.Claims.Terms.{Within}
use Rattle.counting.proofs.Growing.{within_none, within_later}
use Rattle.playing.specs.Played as played
use Rattle.replay.specs.declared.feeding.Replay.{Replay}
use Rattle.replay.specs.Feeding as replays
use Rattle.replay.specs.Claims.Feeding as replays-claims
use Rattle.replay_states.specs.declared.state.FlatReplay.{FlatReplay}
use Rattle.replay_states.specs.States.{flat_report_of, report_of, is_report, replay_with, replay_in, waiting_in, waiting_field, flat_replay_of, held_came, is_state, judged_by, judged}
use Rattle.replay_states.specs.Inner.Terms.{Narrow}

-- ---- over and back

phase_back : (p : Phase) → phase_of (phase_number p) ≡ p
phase_back Unregistered = refl
phase_back Registered = refl
phase_back Active = refl

registration_back : (r : Registration) → registration_of (flat_of r) ≡ r
registration_back r = ap (λ (p : Phase). record { phase = p; len = r.len; copy = r.copy }) (phase_back r.phase)

pub report_back : (x : Report) → report_of (flat_report_of x) ≡ x
unfolding report_of
report_back (Agreed calls) = refl
report_back (Differs call offset) = refl
report_back (Malformed number) = refl

flat_report_lem : (x : Report) → is_report (flat_report_of x) ≡ true
unfolding is_report
flat_report_lem (Agreed calls) = refl
flat_report_lem (Differs call offset) = refl
flat_report_lem (Malformed number) = refl

-- the 32 that waits stays the same
waiting_back : (w : Option ℕ) → waiting_in (waiting_field w) ≡ w
waiting_back (Some size) = let less : size + 1 - 1 ≡ size = omega arith in rw (ne_eqb (size + 1) 0 (λ h. omega (arith, h)), less)
waiting_back None = refl

pub standing_back : (held args memory : List ℕ) (r : Replay) → replays.standing_of held args memory (replay_in (flat_replay_of r)) ≡ replays.standing_of held args memory r
standing_back held args memory r = rw (report_back r.playing.report, registration_back r.playing.registration, waiting_back r.playing.waiting)

-- ---- a state that is taken

-- the number of the 32 that waits, from the buffer and from the size
pub number_same : (w : Option ℕ) (args : List ℕ) → 4100 ≤ length args → IfSome w (λ n. n ≤ 4100) → waiting_number (played.waiting_of w args) ≡ waiting_field w
number_same (Some size) args room h = ap (λ (n : ℕ). n + 1) (length-take-le size args (omega arith))
number_same None args room h = refl

size_low : (n : ℕ) → n ≤ 4101 → IfSome (waiting_in n) (λ k. k ≤ 4100)
size_low n h = decide (eqb n 0) (λ t. rw t tt) (λ t. rw t (omega arith))

pub sized : (n : ℕ) (args : List ℕ) → n ≤ 4101 → 4100 ≤ length args → waiting_number (played.waiting_of (waiting_in n) args) ≡ n
sized n args h room = decide (eqb n 0)
    (λ t. rw t (sym (eqb-true n 0 t)))
    (λ t. let some = eqb-false n 0 t in let more : n - 1 + 1 ≡ n = omega arith in rw t (number_same (Some (n - 1)) args room (omega arith) ∙ more))

-- the calls of a report are no more than its records
unfoldable pub calls_in_lem : Report → ℕ
calls_in_lem (Agreed calls) = calls
calls_in_lem (Differs call offset) = call
calls_in_lem (Malformed number) = 0

module _ (records w least : ℕ) where
  calls_few : (x : Report) → report_came x records w least ≡ true → calls_in_lem x ≤ records
  unfolding calls_in_lem
  calls_few (Agreed calls) e = omega (arith, leb-true (calls + calls + w) records (and_right (leb least calls) _ e))
  calls_few (Differs call offset) e =
      let rest = and_right (leb least call) _ (and_right (leb 1 call) _ (and_right (eqb w 0) _ e)) in
      omega (arith, leb-true (call + call) records (and_left _ _ rest))
  calls_few (Malformed number) e = omega arith

agreed_few : (x : Report) → agreed x ≤ calls_in_lem x
unfolding calls_in_lem
agreed_few (Agreed calls) = omega arith
agreed_few (Differs call offset) = omega arith
agreed_few (Malformed number) = omega arith

number_in : (v k n : ℕ) → v ≤ 1 → calls_in_lem (report_of (record { verdict = v; offset = k; number = n })) ≡ n
unfolding report_of calls_in_lem
number_in zero k n h = refl
number_in (suc zero) k n h = refl
number_in (suc (suc v)) k n h = absurd (omega (arith, h))

-- held bytes are fewer than any record has, and none once a replay has stopped
held_most : (v h : ℕ) → held_came v h ≡ true → h ≤ 4103
unfolding held_came
held_most v h e = decide (eqb h 0) (λ t. omega (arith, eqb-true h 0 t)) (λ t. leb-true h 4103 (and_right (eqb v 0) _ (rw t at e)))

held_none : (v k n h : ℕ) → held_came v h ≡ true → is_over (report_of (record { verdict = v; offset = k; number = n })) ≡ true → h ≡ 0
unfolding held_came report_of
held_none v k n h e over = decide (eqb h 0) (eqb-true h 0) (λ t. absurd (false≢true (rw (and_left (eqb v 0) _ (rw t at e)) at over)))

held_by : (x : Report) (h : ℕ) → h ≤ 4103 → (is_over x ≡ true → h ≡ 0) → held_came (flat_report_of x).verdict h ≡ true
unfolding held_came
held_by (Agreed calls) h low none = decide (eqb h 0) (λ t. rw t) (λ t. rw t (le-leb h 4103 low))
held_by (Differs call offset) h low none = rw (none refl)
held_by (Malformed number) h low none = rw (none refl)

-- the tests of a state, one by one
registered_phase : (n : ℕ) → is_registered (phase_of n) ≡ eqb n 1
registered_phase n = decide (eqb n 1) (λ t. rw (eqb-true n 1 t)) (λ t. decide (eqb n 0) (λ z. rw (eqb-true n 0 z)) (λ z. rw (z, t)))

bit : (t : Bool) → cond t 1 0 ≤ 1
bit true = omega arith
bit false = omega arith

pub at_most_two : (s t : Bool) → cond s 1 0 + cond t 1 0 ≤ 2
at_most_two s t = omega (arith, bit s, bit t)

pub at_most_one : (waiting : ℕ) → waits_in waiting ≤ 1
at_most_one waiting = decide (eqb waiting 0) (λ t. rw t (omega arith)) (λ t. rw t (omega arith))

pub calls_are : (f : FlatReplay) → cond (eqb f.registration.phase 1) 1 0 + cond (ltb 1 f.reading.number) 1 0 ≡ calls_for (registration_of f.registration) (reading_of f.reading)
calls_are f = rw (registered_phase f.registration.phase)

pub state_tests : (f : FlatReplay) {a b c d e g h : Bool} → is_report f.report ≡ a → leb f.records 4_294_967_295 ≡ b → leb f.waiting 4101 ≡ c
    → report_came (report_of f.report) f.records (waits_in f.waiting) (calls_for (registration_of f.registration) (reading_of f.reading)) ≡ d
    → registration_came (registration_of f.registration) ≡ e → reading_came (record { 0 = f.edition }) (reading_of f.reading) ≡ g → held_came f.report.verdict f.held ≡ h
    → (a && ((b && (c && (d && (e && g)))) && h)) ≡ is_state f
unfolding is_state came
state_tests f r n w t x y z = rw (r, n, w, t, x, y, z)

module _ (f : FlatReplay) (is : is_state f ≡ true) where
  reports : is_report f.report ≡ true
  unfolding is_state
  reports = and_left _ _ is

  has_come : came (record { 0 = f.edition }) f.records f.waiting (report_of f.report) (registration_of f.registration) (reading_of f.reading) ≡ true
  unfolding is_state
  has_come = and_left _ _ (and_right (is_report f.report) _ is)

  held_came_lem : held_came f.report.verdict f.held ≡ true
  unfolding is_state
  held_came_lem = and_right (came (record { 0 = f.edition }) f.records f.waiting (report_of f.report) (registration_of f.registration) (reading_of f.reading)) _ (and_right (is_report f.report) _ is)

  pub few : f.records ≤ 4_294_967_295
  unfolding came
  few = leb-true _ _ (and_left _ _ has_come)

  pub short : f.waiting ≤ 4101
  unfolding came
  short = leb-true _ _ (and_left _ _ (and_right (leb f.records 4_294_967_295) _ has_come))

  pub counts : report_came (report_of f.report) f.records (waits_in f.waiting) (calls_for (registration_of f.registration) (reading_of f.reading)) ≡ true
  unfolding came
  counts = and_left _ _ (and_right (leb f.waiting 4101) _ (and_right (leb f.records 4_294_967_295) _ has_come))

  pub calls_low : calls_in_lem (report_of f.report) ≤ f.records
  calls_low = calls_few f.records (waits_in f.waiting) (calls_for (registration_of f.registration) (reading_of f.reading)) (report_of f.report) counts

  pub narrow : Narrow f.report
  narrow h = omega (arith, few, calls_low, number_in f.report.verdict f.report.offset f.report.number h)

  pub state_came_lem : (args memory : List ℕ) → 4100 ≤ length args → state_came (record { 0 = f.edition }) (played.state_of args memory (replay_in f).playing) ≡ true
  unfolding state_came
  state_came_lem args memory room = rw (sized f.waiting args short room) has_come

  ready_by : (held args : List ℕ) (c : Counts) → Within f.records c → 4104 ≤ length held → 4100 ≤ length args → ripe good_frame (take f.held held) ≡ false → replays-claims.Ready held args (replay_with f c)
  ready_by held args c counted h a raw =
      record {
        steady = record {
          room = a;
          inside = size_low f.waiting short;
          few = few;
          fewer = omega (arith, agreed_few (report_of f.report), calls_low);
        };
        counted = counted;
        room = h;
        inside = omega (arith, held_most f.report.verdict f.held held_came_lem);
        raw = raw;
        quiet = held_none f.report.verdict f.report.offset f.report.number f.held held_came_lem;
      }

-- ---- a burst that is taken

pub judged_by_lem : (held : List ℕ) (n : ℕ) (f : FlatReplay) {a b s r : Bool} → leb 4104 (length held) ≡ a → leb 4100 n ≡ b → is_state f ≡ s → ripe good_frame (take f.held held) ≡ r
    → ◌≡◌ {A = ℕ} (cond (a && b) (cond (s && not r) 0 14) 15) (judged_by held n f)
unfolding judged_by
judged_by_lem held n f h a i r = rw (h, a, i, r)

-- the held bytes lie in a buffer with room for any record
pub held_fits : (held : List ℕ) (f : FlatReplay) → 4104 ≤ length held → is_state f ≡ true → f.held ≤ length held
held_fits held f h is = omega (arith, held_most f.report.verdict f.held (held_came_lem f is))

-- what is due at a place, or 0, tells whether a record is there
pub ripe_is : (b : List ℕ) (n : ℕ) → n ≡ cond (ripe good_frame (drop 0 b)) (due good_frame (drop 0 b)) 0 → (n ≡ 0 → ⊥) → ripe good_frame b ≡ true
ripe_is b n e h = decide (ripe good_frame b) (λ t. t) (λ t. absurd (h (e ∙ rw t)))

pub ripe_not : (b : List ℕ) (n : ℕ) → n ≡ cond (ripe good_frame (drop 0 b)) (due good_frame (drop 0 b)) 0 → n ≡ 0 → ripe good_frame b ≡ false
ripe_not b n e h = decide (ripe good_frame b) (λ t. let d : n ≡ due good_frame b = e ∙ rw t in absurd (omega (arith, due_least good_frame b))) (λ t. t)

judged_zero : (a b s r : Bool) → ◌≡◌ {A = ℕ} (cond (a && b) (cond (s && not r) 0 14) 15) 0 → (a ≡ true) × ((b ≡ true) × ((s ≡ true) × (r ≡ false)))
judged_zero true true true false e = (refl, (refl, (refl, refl)))
judged_zero true true true true e = absurd (omega (arith, e))
judged_zero true true false r e = absurd (omega (arith, e))
judged_zero true false s r e = absurd (omega (arith, e))
judged_zero false b s r e = absurd (omega (arith, e))

pub taken_by : (held : List ℕ) (room : ℕ) (f : FlatReplay) → judged_by held room f ≡ 0 → is_state f ≡ true
unfolding judged_by
taken_by held room f e = (judged_zero (leb 4104 (length held)) (leb 4100 room) (is_state f) (ripe good_frame (take f.held held)) e).1.1.0

module _ (held args : List ℕ) (f : FlatReplay) (zero_is : judged held args f ≡ 0) where
  all : (leb 4104 (length held) ≡ true) × ((leb 4100 (length args) ≡ true) × ((is_state f ≡ true) × (ripe good_frame (take f.held held) ≡ false)))
  unfolding judged_by
  all = judged_zero (leb 4104 (length held)) (leb 4100 (length args)) (is_state f) (ripe good_frame (take f.held held)) zero_is

  pub taken : is_state f ≡ true
  taken = taken_by held (length args) f zero_is

  pub room : 4100 ≤ length args
  room = leb-true _ _ all.1.0

  pub ready_with : (c : Counts) → Within f.records c → replays-claims.Ready held args (replay_with f c)
  ready_with c counted = ready_by f taken held args c counted (leb-true _ _ all.0) room all.1.1.1

  pub ready : replays-claims.Ready held args (replay_in f)
  ready = ready_with no_counts (within_later 0 no_counts within_none f.records (omega arith))

-- ---- a state that a burst leaves is taken again

module _ (held args memory : List ℕ) (r : Replay) (ready : replays-claims.Ready held args r) (has : state_came r.playing.edition (played.state_of args memory r.playing) ≡ true) where
  held_low : r.held ≤ 4103
  unfolding ripe
  held_low = omega (arith, leb-false (due good_frame (take r.held held)) (length (take r.held held)) ready.raw, due_most (take r.held held), length-take-le r.held held ready.inside)

  flat_came : came r.playing.edition r.playing.records (waiting_field r.playing.waiting) r.playing.report r.playing.registration r.playing.reading ≡ true
  unfolding state_came
  flat_came = rw (number_same r.playing.waiting args ready.steady.room ready.steady.inside) at has

  flat_state : is_state (flat_replay_of r) ≡ true
  unfolding is_state
  flat_state = rw (flat_report_lem r.playing.report, report_back r.playing.report, registration_back r.playing.registration, flat_came) (held_by r.playing.report r.held held_low ready.quiet)

  pub again : judged held args (flat_replay_of r) ≡ 0
  unfolding judged_by
  again = rw (le-leb 4104 (length held) ready.room, le-leb 4100 (length args) ready.steady.room, flat_state, ready.raw)

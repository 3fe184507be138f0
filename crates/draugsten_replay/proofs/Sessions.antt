-- A counting replay over bursts is the session of the whole trace: its report, and the counts of its calls.
use Prim.Native.Nat.{ℕ}
use mathlib.Core.Path.{◌≡◌, refl, sym, ap, ap₂, ◌∙◌}
use mathlib.Core.Bool.{Bool, true, false, cond}
use mathlib.Core.List.{List, [], ◌∷◌, ◌++◌}
use native.Mathlib.Omega.{arith}
use lib.Dec.{eqb}
use lib.ListN.{length}
use borrow.Author.Tests.{eqb-true, eqb-false}
use Rattle.words.proofs.Choice.{decide, and_left, and_right}
use Rattle.records.specs.Cutting.{Standing, start, fed, fed_all, joined}
use Rattle.records.proofs.Feeding.{any_cutting, standing_start, fed_along}
use Rattle.trace.specs.declared.report.Report.{Report}
use Rattle.trace.specs.Playing.{Platform, State, begin, reader, replay_of}
use Rattle.counting.specs.declared.counts.Counts.{Counts}
use Rattle.counting.specs.Counts.{no_counts}
use Rattle.counting.specs.Figures.{sum_of}
use Rattle.counting.specs.CountsCame.{counts_came}
use Rattle.counting.specs.OfTrace.{Counting, counter, counts_of}
use Rattle.counting.proofs.OfTrace.{counter_state, counter_sticky, counts_of_calls}
use Rattle.replay.specs.Feeding.{end_of}
use Rattle.replay_states.specs.declared.state.FlatReplay.{FlatReplay}
use Rattle.replay_states.specs.States.{flat_report_of, report_of, waits, is_state, are_counts, judged, judged_by}
use Rattle.replay_states.proofs.States.{report_back, taken}
use Rattle.draugsten_replay.specs.declared.feeding.FlatEnded.{FlatEnded}
use Rattle.draugsten_replay.specs.declared.month.FlatCounting.{FlatCounting}
use Rattle.draugsten_replay.specs.Feeding.{platform, standing_in, flat_end_of}
use Rattle.draugsten_replay.specs.Claims.WholeTrace.{Burst, Fed, trace_in, last_replay}
use Rattle.draugsten_replay.specs.Month.{is_counting, is_counting_by, judged_counting, judged_counting_by, flat_counting_start, counting_in, CountingFeeds, month_added}
use Rattle.draugsten_replay.specs.Claims.Month.{CountingAccepted, CountedBurst, FedCounting, trace_fed, last_counting, AllFed, WholeSession}
use Rattle.draugsten_replay.proofs.Bursts.{start_accepted}
use Rattle.draugsten_replay.proofs.WholeTrace.{whole_trace}

-- ---- what is taken

both_zero : (n : ℕ) (b : Bool) → ◌≡◌ {A = ℕ} (cond (eqb n 0) (cond b 0 14) n) 0 → (n ≡ 0) × (b ≡ true)
both_zero n true = decide (eqb n 0) (λ t. rw t (λ e. (eqb-true n 0 t, refl))) (λ t. rw t (λ e. (e, refl)))
both_zero n false = decide (eqb n 0) (λ t. rw t (λ e. absurd (omega (arith, e)))) (λ t. rw t (λ e. absurd (eqb-false n 0 t e)))

module _ (held args : List ℕ) (f : FlatCounting) (zero_is : judged_counting held args f ≡ 0) where
  pub alone : judged held args f.replay ≡ 0
  unfolding judged_counting_by
  alone = (both_zero (judged_by held (length args) f.replay) (are_counts f.replay f.counts) zero_is).0

  pub counts_in : are_counts f.replay f.counts ≡ true
  unfolding judged_counting_by
  counts_in = (both_zero (judged_by held (length args) f.replay) (are_counts f.replay f.counts) zero_is).1

  pub counting_is : is_counting f ≡ true
  unfolding is_counting_by
  counting_is = rw (taken held args f.replay alone, counts_in)

pub counting_accepted : CountingAccepted
unfolding judged_counting_by are_counts counts_came report_of sum_of
counting_accepted held args edition h a = rw (start_accepted held args [] edition h a).0

-- ---- bursts

plain : List CountedBurst → List Burst
plain [] = []
plain (b ∷ bs) = record { bytes = b.bytes; answer = record { number = 0; replay = b.answer.counting.replay }; held = b.held; args = b.args; memory = b.memory } ∷ plain bs

bursts : List CountedBurst → List (List ℕ)
bursts [] = []
bursts (b ∷ bs) = b.bytes ∷ bursts bs

joined_is : (bs : List CountedBurst) → joined (bursts bs) ≡ trace_fed bs
unfolding joined bursts
joined_is [] = refl
joined_is (b ∷ bs) = ap (λ (l : List ℕ). b.bytes ++ l) (joined_is bs)

trace_is : (bs : List CountedBurst) → trace_in (plain bs) ≡ trace_fed bs
unfolding plain
trace_is [] = refl
trace_is (b ∷ bs) = ap (λ (l : List ℕ). b.bytes ++ l) (trace_is bs)

last-is : (f : FlatCounting) (bs : List CountedBurst) → last_replay f.replay (plain bs) ≡ (last_counting f bs).replay
unfolding plain
last-is f [] = refl
last-is f (b ∷ bs) = last-is b.answer.counting bs

abbrev with_counts : Standing State → Counts → Standing Counting
with_counts w c = record { state = record { state = w.state; counts = c }; held = w.held }

-- a burst that is taken, with its counts
counts_fed : (journal inventory held args memory : List ℕ) (f : FlatCounting) (b : CountedBurst) → judged_counting held args f ≡ 0 → CountingFeeds journal inventory held args memory f b.bytes b.held b.args b.memory b.answer
    → counting_in b.held b.args b.memory b.answer.counting ≡ fed (counter (platform journal inventory f.replay.edition)) (counting_in held args memory f) b.bytes
counts_fed journal inventory held args memory f b z x =
    let p = platform journal inventory f.replay.edition in
    let w = counting_in held args memory f in
    let same : standing_in b.held b.args b.memory b.answer.counting.replay ≡ record { state = (fed (counter p) w b.bytes).state.state; held = (fed (counter p) w b.bytes).held } =
    (x.replays z).given (alone held args f z) ∙ fed_along (counter p) (reader p) (λ (y : Counting). y.state) refl (counter_state p) (λ _. refl) w b.bytes in
    ap₂ with_counts same (x.counts z)

-- where bursts end: as the reader that counts says, taken again, and fed to a replay alone in the same way
record Ends (journal inventory : List ℕ) (p : Platform) (w : Standing Counting) (held args memory : List ℕ) (f : FlatCounting) (bs : List CountedBurst) : Type 0 where
  counts : (last_counting f bs).counts ≡ (fed_all (counter p) w (bursts bs)).state.counts
  is_counting_lem : is_counting (last_counting f bs) ≡ true
  fed_alone : Fed journal inventory held args memory f.replay (plain bs)
  none : AllFed bs

module _ (journal inventory : List ℕ) (edition : ℕ) where
  abbrev p : Platform
  p = platform journal inventory edition

  ends : (held args memory : List ℕ) (f : FlatCounting) (bs : List CountedBurst) → f.replay.edition ≡ edition → judged_counting held args f ≡ 0 → FedCounting journal inventory held args memory f bs
      → Ends journal inventory p (counting_in held args memory f) held args memory f bs
  unfolding fed_all bursts plain
  ends held args memory f [] e z fs = record { counts = refl; is_counting_lem = counting_is held args f z; fed_alone = tt; none = tt }
  ends held args memory f (b ∷ bs) e z fs =
      let x = fs.0 in
      let rest = ends b.held b.args b.memory b.answer.counting bs ((x.replays z).edition ∙ e) (x.again z) fs.1 in
      record {
        counts = rest.counts ∙ ap (λ (w : Standing Counting). (fed_all (counter p) w (bursts bs)).state.counts) (rw (← e) (counts_fed journal inventory held args memory f b z x));
        is_counting_lem = rest.is_counting_lem;
        fed_alone = (x.replays z, rest.fed_alone);
        none = (x.number ∙ z, rest.none);
      }

-- ---- the whole session

pub state_of_lem : (f : FlatCounting) → is_counting f ≡ true → is_state f.replay ≡ true
unfolding is_counting_by
state_of_lem f e = and_left _ _ e

pub counts_of_lem : (f : FlatCounting) → is_counting f ≡ true → are_counts f.replay f.counts ≡ true
unfolding is_counting_by
counts_of_lem f e = and_right (is_state f.replay) _ e

-- the report that an end tells
end_is : (f : FlatReplay) (r : Report) → is_state f ≡ true → flat_end_of f ≡ record { number = 0; report = flat_report_of r } → end_of (report_of f.report) f.records (waits f) f.held ≡ r
unfolding flat_end_of
end_is f r is e =
    let x = end_of (report_of f.report) f.records (waits f) f.held in
    let same : flat_report_of x ≡ flat_report_of r = ap (λ (y : FlatEnded). y.report) (rw is at e) in
    sym (report_back x) ∙ ap report_of same ∙ report_back r

pub whole_session : WholeSession
unfolding month_added
whole_session journal inventory held args memory edition bs h a fs =
    let p = platform journal inventory edition in
    let f = last_counting (flat_counting_start edition) bs in
    let x = ends journal inventory edition held args memory (flat_counting_start edition) bs refl (counting_accepted held args edition h a) fs in
    let from : Standing Counting = start (record { state = begin memory; counts = no_counts }) in
    let first : counting_in held args memory (flat_counting_start edition) ≡ from = ap (λ (w : Standing State). with_counts w no_counts) (start_accepted held args memory edition h a).1 in
    let counts : f.counts ≡ counts_of p memory (trace_fed bs) =
    x.counts ∙ ap (λ (w : Standing Counting). (fed_all (counter p) w (bursts bs)).state.counts) first
    ∙ ap (λ (w : Standing Counting). w.state.counts) (any_cutting (counter p) (counter_sticky p) from (standing_start (counter p) (record { state = begin memory; counts = no_counts })) (bursts bs) ∙ ap (fed (counter p) from) (joined_is bs))
    ∙ counts_of_calls p memory (trace_fed bs) in
    let whole = whole_trace journal inventory held args memory edition (plain bs) h a x.fed_alone in
    let state-is = state_of_lem f x.is_counting_lem in
    let told = rw (last-is (flat_counting_start edition) bs, trace_is bs) at whole.told in
    let report = end_is f.replay (replay_of p memory (trace_fed bs)).report state-is told in
    (x.none, λ t. rw (x.is_counting_lem, report, counts))

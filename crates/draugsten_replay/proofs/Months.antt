-- Totals over sessions: what is claimed of totals, said of the sessions that they come from.
use Rattle.std.specs.Prelude.{is_ok, IsOk}
use Prim.Native.Nat.{ℕ, zero, suc, ◌+◌, ◌*◌}
use mathlib.Core.Path.{◌≡◌, refl, sym, ap, ◌∙◌}
use mathlib.Core.Bool.{Bool, true, false, cond, true≢false, false≢true}
use mathlib.Core.List.{List, [], ◌∷◌}
use native.Mathlib.Nat.{add-zero}
use native.Mathlib.Omega.{arith}
use lib.Dec.{leb}
use lib.ListN.{length, get_or}
use borrow.Author.Tests.{leb-true}
use Rattle.words.proofs.Choice.{decide, and_left, and_right}
use Rattle.trace.specs.declared.report.Report.{Report}
use Rattle.trace.specs.declared.report.Report.TheVariants.{Agreed, Differs, Malformed}
use Rattle.trace.specs.Playing.{is_over, begin}
use Rattle.records.specs.Records.{records}
use Rattle.records.specs.Cutting.{start, fed, fed_all}
use Rattle.trace.specs.Came.{waiting_number, waits_in}
use Rattle.calls.specs.Buffer.{Left}
use Rattle.counting.specs.declared.counts.Counts.{Counts}
use Rattle.counting.specs.Counts.{no_counts}
use Rattle.counting.specs.Figures.{sum_of, figures_of}
use Rattle.counting.specs.Claims.Terms.{Within}
use Rattle.counting.specs.OfTrace.{calls_made, counted_all, counts_of, counter}
use Rattle.counting.specs.CountsCame.{made_came, counts_came}
use Rattle.counting.proofs.OfTrace.{counts_of_calls}
use Rattle.counting.proofs.CountsCame.{all_counts_came}
use Rattle.counting.proofs.Consistent.{figures_consistent}
use Rattle.counting.proofs.Growing.{within_none, within_more}
use Rattle.counting.proofs.Summing.{length_figures}
use Rattle.totals.specs.declared.adding.Totals.{Totals}
use Rattle.totals.specs.Adding.{no_totals, added_to, totals_after}
use Rattle.totals.specs.Claims.Totals.{added_all, AllTaken, AllSized, figure_over, exchanged, reordered}
use Rattle.totals.specs.Consistent.{consistent}
use Rattle.totals.proofs.Claims.{totals_claims, sized as add-sized}
use Rattle.totals.proofs.Agreeing.{consistent_claims}
use Rattle.replay.specs.Feeding.{end_of}
use Rattle.replay_states.specs.States.{flat_report_of, report_of, waits}
use Rattle.draugsten_replay.specs.Month.{is_counting, counts_added, added_by, month_added}
use Rattle.draugsten_replay.specs.Claims.Sessions.{Session, platform_of, report_for, figures_for, session_added, month_of, NoneRefused}
use Rattle.draugsten_replay.specs.Claims.Month.{figure_sum, MonthSums, MonthInAnyOrder, RefusedKeeps, MonthConsistent}

-- ---- the counts of calls one after the other

all_within : (n : ℕ) (c : Counts) (xs : List Left) → Within n c → Within (n + length xs) (counted_all c xs)
unfolding counted_all
all_within n c [] w = rw add-zero w
all_within n c (x ∷ xs) w =
    let e : n + 1 + length xs ≡ n + length (x ∷ xs) = omega arith in
    rw (← e) (all_within (n + 1) _ xs (within_more n c w x.number x.args x.memory))

-- ---- one session

by_taken : (b : Bool) → ◌≡◌ {A = ℕ} (cond b 0 17) 0 → b ≡ true
by_taken true e = refl
by_taken false e = absurd (omega (arith, e))

-- what is not refused agreed, fits, and is added
added_is : (t : Totals) (r : Report) (m : Totals) → (added_by t r m).number ≡ 0
    → IsOk (added_to t m) × (((added_by t r m).totals ≡ totals_after t m) × (is_over r ≡ false))
unfolding counts_added
added_is t (Agreed calls) m e = (by_taken (is_ok (added_to t m)) e, (refl, refl))
added_is t (Differs call offset) m e = absurd (omega (arith, e))
added_is t (Malformed number) m e = absurd (omega (arith, e))

-- and the other way round
added_by_lem : (t : Totals) (r : Report) (m : Totals) → is_over r ≡ false
    → IsOk (added_to t m) → ((added_by t r m).number ≡ 0) × ((added_by t r m).totals ≡ totals_after t m)
unfolding counts_added
added_by_lem t (Agreed calls) m g e = (rw e, refl)
added_by_lem t (Differs call offset) m g e = absurd (true≢false g)
added_by_lem t (Malformed number) m g e = absurd (true≢false g)

-- by whether the replay went on to the end
pub added_agreed : (t : Totals) (r : Report) (m : Totals) → is_over r ≡ false → added_by t r m ≡ counts_added t m (flat_report_of r)
added_agreed t (Agreed calls) m g = refl
added_agreed t (Differs call offset) m g = absurd (true≢false g)
added_agreed t (Malformed number) m g = absurd (true≢false g)

pub added_over : (t : Totals) (r : Report) (m : Totals) → is_over r ≡ true → added_by t r m ≡ record { number = 16; report = flat_report_of r; totals = t }
added_over t (Agreed calls) m o = absurd (false≢true o)
added_over t (Differs call offset) m o = refl
added_over t (Malformed number) m o = refl

-- a refusal keeps the totals
kept_by : (t : Totals) (r : Report) (m : Totals) → ((added_by t r m).number ≡ 0 → ⊥) → (added_by t r m).totals ≡ t
unfolding counts_added
kept_by t (Agreed calls) m h = decide (is_ok (added_to t m)) (λ e. absurd (h (rw e))) (λ e. totals_claims.refused_whole t m e)
kept_by t (Differs call offset) m h = refl
kept_by t (Malformed number) m h = refl

pub refused_keeps : RefusedKeeps
unfolding month_added
refused_keeps t f = decide (is_counting f) (λ e. rw e (λ h. kept_by t (end_of (report_of f.replay.report) f.replay.records (waits f.replay) f.replay.held) (figures_of f.counts) h)) (λ e. rw e (λ h. refl))

-- ---- sessions one after the other

-- 28 rows and 35 figures each
session_rows_lem : (s : Session) → length (counts_of (platform_of s) s.memory s.trace).rows ≡ 28
unfolding counts_of
session_rows_lem s = (all_within 0 no_counts (calls_made (platform_of s) (begin s.memory) (records s.trace)) within_none).size

pub session_figures : (s : Session) → length (figures_for s).figures ≡ 35
session_figures s = length_figures (counts_of (platform_of s) s.memory s.trace) (session_rows_lem s)

unfoldable pub figures : List Session → List Totals
figures [] = []
figures (s ∷ ss) = figures_for s ∷ figures ss

abbrev pub Going : List Session → Type 0
Going [] = Unit {0}
Going (s ∷ ss) = (is_over (report_for s) ≡ false) × Going ss

pub sized : (ss : List Session) → AllSized (figures ss)
unfolding figures
sized [] = tt
sized (s ∷ ss) = (session_figures s, sized ss)

-- none is refused, so all go on and all figures are taken
pub taken_all : (t : Totals) (ss : List Session) → NoneRefused t ss → (AllTaken t (figures ss) × Going ss) × (month_of t ss ≡ added_all t (figures ss))
unfolding figures month_of added_all
taken_all t [] n = ((tt, tt), refl)
taken_all t (s ∷ ss) n =
    let a = added_is t (report_for s) (figures_for s) n.0 in
    let r = rw a.1.0 at (taken_all (session_added t s).totals ss n.1) in
    (((a.0, r.0.0), (a.1.1, r.0.1)), rw a.1.0 r.1)

pub none_refused : (t : Totals) (ss : List Session) → AllTaken t (figures ss) → Going ss → NoneRefused t ss × (month_of t ss ≡ added_all t (figures ss))
unfolding figures month_of added_all
none_refused t [] a g = (tt, refl)
none_refused t (s ∷ ss) a g =
    let b = added_by_lem t (report_for s) (figures_for s) g.0 a.0 in
    let r = none_refused (totals_after t (figures_for s)) ss a.1 g.1 in
    rw b.1 ((b.0, r.0), r.1)

-- ---- in any order

figures_exchanged : (k : ℕ) (ss : List Session) → figures (exchanged k ss) ≡ exchanged k (figures ss)
unfolding figures exchanged
figures_exchanged k [] = refl
figures_exchanged k (a ∷ []) = refl
figures_exchanged zero (a ∷ b ∷ ss) = refl
figures_exchanged (suc k) (a ∷ b ∷ ss) = ap (λ (ms : List Totals). figures_for a ∷ ms) (figures_exchanged k (b ∷ ss))

going_exchanged : (k : ℕ) (ss : List Session) → Going ss → Going (exchanged k ss)
unfolding exchanged
going_exchanged k [] g = g
going_exchanged k (a ∷ []) g = g
going_exchanged zero (a ∷ b ∷ ss) g = (g.1.0, (g.0, g.1.1))
going_exchanged (suc k) (a ∷ b ∷ ss) g = (g.0, going_exchanged k (b ∷ ss) g.1)

figures_reordered : (ks : List ℕ) (ss : List Session) → figures (reordered ks ss) ≡ reordered ks (figures ss)
unfolding reordered
figures_reordered [] ss = refl
figures_reordered (k ∷ ks) ss = figures_reordered ks (exchanged k ss) ∙ ap (reordered ks) (figures_exchanged k ss)

going_reordered : (ks : List ℕ) (ss : List Session) → Going ss → Going (reordered ks ss)
unfolding reordered
going_reordered [] ss g = g
going_reordered (k ∷ ks) ss g = going_reordered ks (exchanged k ss) (going_exchanged k ss g)

pub month_in_any_order : MonthInAnyOrder
month_in_any_order t ss ks h n =
    let a = taken_all t ss n in
    let o = totals_claims.in_any_order t (figures ss) ks h (sized ss) a.0.0 in
    let e = figures_reordered ks ss in
    let b = none_refused t (reordered ks ss) (rw e o.0) (going_reordered ks ss a.0.1) in
    (b.0, b.1 ∙ ap (added_all t) e ∙ o.1 ∙ sym a.1)

-- ---- sums

sum_is : (i : ℕ) (ss : List Session) → figure_over i (figures ss) ≡ figure_sum i ss
unfolding figures figure_over figure_sum
sum_is i [] = refl
sum_is i (s ∷ ss) = ap (λ (n : ℕ). get_or (figures_for s).figures i 0 + n) (sum_is i ss)

pub month_sums : MonthSums
month_sums ss i n =
    let a = taken_all no_totals ss n in
    ap (λ (t : Totals). get_or t.figures i 0) a.1 ∙ totals_claims.from_nothing (figures ss) i (sized ss) a.0.0 ∙ sum_is i ss

-- ---- consistent

-- what was counted keeps the rules of counts
session_consistent : (s : Session) → consistent (figures_for s) ≡ true
unfolding fed_all counts_came
session_consistent s =
    let p = platform_of s in
    let c = counts_of p s.memory s.trace in
    let x = (fed (counter p) (start (record { state = begin s.memory; counts = no_counts })) s.trace).state in
    let came = all_counts_came p s.memory (s.trace ∷ []) in
    let words = and_right (made_came x.state.report x.state.records (waits_in (waiting_number x.state.waiting)) (sum_of 28 x.counts.rows)) _ came in
    let words_is = rw (counts_of_calls p s.memory s.trace) at words in
    figures_consistent c (session_rows_lem s) (leb-true c.operations c.used (and_left _ _ words_is)) (leb-true c.used (1019 * sum_of 2 c.rows) (and_right (leb c.operations c.used) _ words_is))

all_consistent : (t : Totals) (ss : List Session) → length t.figures ≡ 35 → consistent t ≡ true → AllTaken t (figures ss) → consistent (added_all t (figures ss)) ≡ true
unfolding figures added_all
all_consistent t [] h e a = e
all_consistent t (s ∷ ss) h e a =
    all_consistent (totals_after t (figures_for s)) ss (add-sized t (figures_for s) h (session_figures s) a.0)
    (consistent_claims.kept t (figures_for s) h (session_figures s) e (session_consistent s) a.0) a.1

pub month_consistent : MonthConsistent
month_consistent ss n =
    let a = taken_all no_totals ss n in
    ap consistent a.1 ∙ all_consistent no_totals ss refl consistent_claims.none a.0.0

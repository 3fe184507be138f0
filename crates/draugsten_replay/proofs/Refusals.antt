-- What adding, merging and the share come to, case by case.
use Rattle.std.specs.Prelude.{is_ok}
use Prim.Native.Nat.{◌*◌}
use mathlib.Core.Path.{◌≡◌, refl, ap, ◌∙◌}
use mathlib.Core.Bool.{true, false, cond, true≢false, false≢true}
use mathlib.Core.List.{List, [], ◌∷◌, ◌++◌}
use lib.Dec.{leb}
use lib.ListN.{length}
use borrow.Author.Tests.{leb-true}
use Rattle.words.proofs.Choice.{decide, and_left, and_right}
use Rattle.trace.specs.declared.report.Report.{Report}
use Rattle.trace.specs.declared.report.Report.TheVariants.{Agreed, Differs, Malformed}
use Rattle.trace.specs.Playing.{is_over}
use Rattle.trace.specs.Came.{waits_in}
use Rattle.counting.specs.Figures.{sum_of, figures_of}
use Rattle.counting.specs.CountsCame.{made_came, counts_came}
use Rattle.counting.proofs.Consistent.{figures_consistent}
use Rattle.counting.proofs.Summing.{length_figures}
use Rattle.totals.specs.declared.adding.Totals.{Totals}
use Rattle.totals.specs.Adding.{no_totals, added_to, totals_after}
use Rattle.totals.specs.Claims.Totals.{EachFits}
use Rattle.totals.specs.Consistent.{consistent}
use Rattle.totals.proofs.Claims.{totals_claims}
use Rattle.totals.proofs.Agreeing.{consistent_claims}
use Rattle.shares.proofs.Euclid.{share_claims}
use Rattle.replay.specs.Feeding.{end_of}
use Rattle.replay_states.specs.States.{flat_report_of, report_of, waits, are_counts}
use Rattle.draugsten_replay.specs.declared.month.FlatCounting.{FlatCounting}
use Rattle.draugsten_replay.specs.Month.{is_counting, counts_added, added_by, month_added, merged_to}
use Rattle.draugsten_replay.specs.Claims.Sessions.{Session, report_for, figures_for}
use Rattle.draugsten_replay.specs.Claims.Month.{figure_sum, RefusalsInOrder, AddedConsistent, MergeKeeps, MergeTaken, MergedMonths, ShareFromSums}
use Rattle.draugsten_replay.proofs.Sessions.{counts_of_lem}
use Rattle.draugsten_replay.proofs.Months.{session_figures, figures, Going, sized, taken_all, none_refused, month_consistent, month_sums}

not_taken : (t m : Totals) → length t.figures ≡ 35 → length m.figures ≡ 35 → (EachFits t m → ⊥) → is_ok (added_to t m) ≡ false
not_taken t m h k n = decide (is_ok (added_to t m)) (λ e. absurd (n ((totals_claims.taken_exactly t m h k).1 e))) (λ e. e)

report_told : (t : Totals) (r : Report) (m : Totals) → (added_by t r m).report ≡ flat_report_of r
unfolding counts_added
report_told t (Agreed calls) m = refl
report_told t (Differs call offset) m = refl
report_told t (Malformed number) m = refl

over_16 : (t : Totals) (r : Report) (m : Totals) → is_over r ≡ true → (added_by t r m).number ≡ 16
over_16 t (Agreed calls) m o = absurd (false≢true o)
over_16 t (Differs call offset) m o = refl
over_16 t (Malformed number) m o = refl

going_by : (t : Totals) (r : Report) (m : Totals) → is_over r ≡ false → (added_by t r m).number ≡ cond (is_ok (added_to t m)) 0 17
unfolding counts_added
going_by t (Agreed calls) m g = refl
going_by t (Differs call offset) m g = absurd (true≢false g)
going_by t (Malformed number) m g = absurd (true≢false g)

pub refusals_in_order : RefusalsInOrder
refusals_in_order t s h =
    let r = report_for s in
    let m = figures_for s in
    let k = session_figures s in (
      report_told t r m,
      (
        over_16 t r m,
        (
          (λ g e. going_by t r m g ∙ rw ((totals_claims.taken_exactly t m h k).0 e)),
          (λ g n. going_by t r m g ∙ rw (not_taken t m h k n)),
        ),
      ),
    )

-- ---- consistent

added_kept : (t m : Totals) → length t.figures ≡ 35 → length m.figures ≡ 35 → consistent t ≡ true → consistent m ≡ true → consistent (totals_after t m) ≡ true
added_kept t m h k c d = decide (is_ok (added_to t m)) (λ e. consistent_claims.kept t m h k c d e) (λ e. rw (totals_claims.refused_whole t m e) c)

by_kept : (t : Totals) (r : Report) (m : Totals) → length t.figures ≡ 35 → length m.figures ≡ 35 → consistent t ≡ true → consistent m ≡ true → consistent (added_by t r m).totals ≡ true
unfolding counts_added
by_kept t (Agreed calls) m h k c d = added_kept t m h k c d
by_kept t (Differs call offset) m h k c d = c
by_kept t (Malformed number) m h k c d = c

own_consistent : (f : FlatCounting) → length f.counts.rows ≡ 28 → is_counting f ≡ true → consistent (figures_of f.counts) ≡ true
unfolding are_counts counts_came
own_consistent f n is =
    let c = f.counts in
    let words = and_right (made_came (report_of f.replay.report) f.replay.records (waits_in f.replay.waiting) (sum_of 28 c.rows)) _ (counts_of_lem f is) in
    figures_consistent c n (leb-true c.operations c.used (and_left _ _ words)) (leb-true c.used (1019 * sum_of 2 c.rows) (and_right (leb c.operations c.used) _ words))

pub added_consistent : AddedConsistent
unfolding month_added
added_consistent t f h n c =
    decide (is_counting f)
    (λ e. rw e (by_kept t (end_of (report_of f.replay.report) f.replay.records (waits f.replay) f.replay.held) (figures_of f.counts) h (length_figures f.counts n) c (own_consistent f n e)))
    (λ e. rw e c)

-- ---- merging

pub merge_keeps : MergeKeeps
unfolding merged_to
merge_keeps t more =
    decide (consistent more)
    (λ e. rw e (λ h. decide (is_ok (added_to t more)) (λ a. absurd (h (rw a))) (λ a. totals_claims.refused_whole t more a)))
    (λ e. rw e (λ h. refl))

pub merge_taken : MergeTaken
unfolding merged_to
merge_taken t more h k = (
  (λ e. rw e),
  (
    (λ e n. rw (e, not_taken t more h k n)),
    (λ e a. rw (e, (totals_claims.taken_exactly t more h k).0 a) (refl, refl)),
  ),
)

figures_join : (ss rs : List Session) → figures (ss ++ rs) ≡ figures ss ++ figures rs
unfolding figures
figures_join [] rs = refl
figures_join (s ∷ ss) rs = ap (λ (ms : List Totals). figures_for s ∷ ms) (figures_join ss rs)

going_parts : (ss rs : List Session) → Going (ss ++ rs) → Going ss × Going rs
going_parts [] rs g = (tt, g)
going_parts (s ∷ ss) rs g = let r = going_parts ss rs g.1 in ((g.0, r.0), r.1)

pub merged_months : MergedMonths
unfolding merged_to
merged_months ss rs n =
    let all = taken_all no_totals (ss ++ rs) n in
    let e = figures_join ss rs in
    let j = totals_claims.totals_join (figures ss) (figures rs) (sized ss) (sized rs) (rw e at all.0.0) in
    let g = going_parts ss rs all.0.1 in
    let first = none_refused no_totals ss j.0 g.0 in
    let second = none_refused no_totals rs j.1.0 g.1 in
    rw (month_consistent rs second.0, first.1, second.1, j.1.1, all.1, e)

-- ---- the share

pub share_from_sums : ShareFromSums
share_from_sums ss n =
    let used = month_sums ss 33 n in
    let available = month_sums ss 34 n in (
      (λ h. rw (used, available) (share_claims.lowest_terms (figure_sum 33 ss) (figure_sum 34 ss) h)),
      (λ z. rw (used, available, z) (share_claims.none_answered (figure_sum 33 ss))),
    )

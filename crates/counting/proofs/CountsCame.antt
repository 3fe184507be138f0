-- All that a start and bursts count has come: what a record leaves of the counts, then bursts.
use mathlib.Core.Path.{◌≡◌, refl, ap, ◌∙◌}
use mathlib.Core.Bool.{true, false, ◌&&◌}
use mathlib.Core.List.{List, [], ◌∷◌}
use Prim.Native.Nat.{ℕ, ◌+◌, ◌*◌, ◌≤◌}
use native.Mathlib.Omega.{arith}
use lib.Dec.{leb}
use lib.ListN.{length}
use borrow.Author.Tests.{leb-true, le-leb}
use Rattle.words.proofs.Choice.{choose, decide, and_left, and_right}
use Rattle.words.proofs.Exactly.{at_most, both}
use Rattle.records.specs.Records.{kind_of}
use Rattle.records.specs.Cutting.{run, taken, standing, Standing, start, fed, fed_all}
use Rattle.trace.specs.declared.report.Report.{Report}
use Rattle.trace.specs.declared.report.Report.TheVariants.{Agreed, Differs, Malformed}
use Rattle.trace.specs.Trace.{is_before, is_after, is_setting, body_of, is_good, is_settable}
use Rattle.trace.specs.Playing.{Platform, Waiting, none, call, State, begin, is_over, stopped, faulted, kept, setting, called, calling, played, step}
use Rattle.trace.specs.Came.{waiting_number, waits_in, state_came}
use Rattle.trace.proofs.First.{compared_ways}
use Rattle.trace.proofs.Came.{pairs, step_came, begin_came}
use Rattle.counting.specs.declared.counts.Counts.{Counts}
use Rattle.counting.specs.Counts.{no_counts, counted}
use Rattle.counting.specs.Figures.{sum_of}
use Rattle.counting.specs.OfTrace.{is_taken, made_by, made, counted_all, Counting, count_step, counter}
use Rattle.counting.specs.CountsCame.{made_came, counts_came, counting_came}
use Rattle.counting.specs.Claims.CountsCame.{AllCountsCame, EachCounts, TraceCountClaims}
use Rattle.counting.proofs.Growing.{rows_all}
use Rattle.counting.proofs.Sums.{rows_sum, handed_answered}
use Rattle.counting.proofs.OfTrace.{counter_sticky, counts_of_calls}
use Rattle.counting.proofs.EveryCall.{every_call_made}
use Rattle.counting.proofs.TraceCounts.{trace_count_readings}
use Rattle.counting.specs.Claims.Month.{sum_over}
use Rattle.counting.proofs.MonthClaims.{each_month, each_made}

-- ---- the rules

module _ (report : Report) (records waits : ℕ) (c : Counts) where
  came_by : made_came report records waits (sum_of 28 c.rows) ≡ true → c.operations ≤ c.used → c.used ≤ 1019 * sum_of 2 c.rows → counts_came report records waits c ≡ true
  unfolding counts_came
  came_by m o u = rw (m, le-leb c.operations c.used o) (le-leb c.used (1019 * sum_of 2 c.rows) u)

  module _ (has : counts_came report records waits c ≡ true) where
    made_came_lem : made_came report records waits (sum_of 28 c.rows) ≡ true
    unfolding counts_came
    made_came_lem = and_left _ _ has

    words_came : (leb c.operations c.used && leb c.used (1019 * sum_of 2 c.rows)) ≡ true
    unfolding counts_came
    words_came = and_right (made_came report records waits (sum_of 28 c.rows)) _ has

    operations_came : c.operations ≤ c.used
    operations_came = leb-true _ _ (and_left _ _ words_came)

    used_came : c.used ≤ 1019 * sum_of 2 c.rows
    used_came = leb-true _ _ (and_right (leb c.operations c.used) _ words_came)

-- ---- a record

module _ (p : Platform) where
  -- the ways of a record where nothing has stopped the replay: it is a fault, which makes no call, or good
  count_ways : (x : Counting) (r : List ℕ) → stopped x.state ≡ false → (P : Counting → Type 0)
      → P (record { state = faulted x.state; counts = x.counts })
      → P (record { state = played p x.state x.state.waiting (kind_of r) (body_of r); counts = counted_all x.counts (made_by p x.state x.state.waiting (kind_of r)) })
      → P (count_step p x r)
  unfolding count_step step made is_taken counted_all
  count_ways x r going P bad good = decide (leb (x.state.records + 1) 4_294_967_295 && is_good r) (λ t. rw (going, t) good) (λ t. rw (going, t) bad)

  -- a replay that goes on, by the number of its calls
  module _ (s : State) (c : Counts) (calls : ℕ) (going : s.report ≡ Agreed calls) (size : length c.rows ≡ 28) (come : state_came p.edition s ≡ true)
      (has : counting_came (record { state = s; counts = c }) ≡ true) where
    abbrev Came : Counting → Type 0
    Came x = counting_came x ≡ true

    few : sum_of 28 c.rows ≤ calls
    few = leb-true _ _ (rw going at (made_came_lem _ _ _ c has))

    -- the counts stay
    stay_came : (report : Report) (records waits : ℕ) → made_came report records waits (sum_of 28 c.rows) ≡ true → counts_came report records waits c ≡ true
    stay_came report records waits m = came_by report records waits c m (operations_came _ _ _ c has) (used_came _ _ _ c has)

    fault_came_lem : Came (record { state = faulted s; counts = c })
    unfolding faulted
    fault_came_lem =
        let n = sum_of 28 c.rows in
        let waits = waits_in (waiting_number s.waiting) in
        stay_came (Malformed _) s.records waits (le-leb (n + n + waits) s.records (omega (arith, few, pairs p s calls going s.waiting refl come)))

    -- and the report
    same_came : (records waits : ℕ) → counts_came s.report records waits c ≡ true
    same_came records waits = rw going (stay_came (Agreed calls) records waits (le-leb _ _ few))

    kept_came : (body : List ℕ) → Came (record { state = kept s body; counts = c })
    unfolding kept
    kept_came body = same_came _ _

    setting_came : (body : List ℕ) → Came (record { state = setting s body; counts = c })
    unfolding setting
    setting_came body = choose (is_settable s.memory body) (λ (t : State). Came (record { state = t; counts = c })) (λ _. same_came _ _) (λ _. fault_came_lem)

    calling_came : (args body : List ℕ) → let x = called p s args in Came (record { state = calling p s args body; counts = counted c x.number x.args x.memory })
    unfolding calling
    calling_came args body =
        let x = called p s args in
        let a = counted c x.number x.args x.memory in
        let by = handed_answered c x.number x.args x.memory size in
        let more : sum_of 28 a.rows ≤ calls + 1 = omega (arith, few, rows_sum c x.number x.args x.memory) in
        let operations : a.operations ≤ a.used = omega (arith, by.0, operations_came _ _ _ c has) in
        let used : a.used ≤ 1019 * sum_of 2 a.rows = omega (arith, by.1, used_came _ _ _ c has) in
        rw going
        (compared_ways calls body x.args (λ (report : Report). counts_came report (s.records + 1) 0 a ≡ true)
        (λ _. came_by (Agreed (calls + 1)) _ _ a (le-leb _ _ more) operations used)
        (λ k _. came_by (Differs (calls + 1) k) _ _ a (le-leb _ _ more) operations used))

    played_came : (r : List ℕ) (w : Waiting) → Came (record { state = played p s w (kind_of r) (body_of r); counts = counted_all c (made_by p s w (kind_of r)) })
    unfolding counted_all
    played_came r none =
        choose (is_before (kind_of r)) (λ (t : State). Came (record { state = t; counts = c })) (λ _. kept_came (body_of r))
        (λ _. choose (is_setting (kind_of r)) (λ (t : State). Came (record { state = t; counts = c })) (λ _. setting_came (body_of r)) (λ _. fault_came_lem))
    played_came r (call args) = decide (is_after (kind_of r)) (λ t. rw t (calling_came args (body_of r))) (λ t. rw t fault_came_lem)

  pub counts_step : (x : Counting) (r : List ℕ) → length x.counts.rows ≡ 28 → state_came p.edition x.state ≡ true → counting_came x ≡ true → counting_came (count_step p x r) ≡ true
  unfolding stopped
  counts_step x r size come has = by x.state.report refl
    where
      by : (report : Report) → x.state.report ≡ report → counting_came (count_step p x r) ≡ true
      by (Agreed calls) e = count_ways x r (ap is_over e) (λ (y : Counting). counting_came y ≡ true)
          (fault_came_lem x.state x.counts calls e size come has)
          (played_came x.state x.counts calls e size come has r x.state.waiting)
      by (Differs n k) e = rw (counter_sticky p x r (ap is_over e)) has
      by (Malformed n) e = rw (counter_sticky p x r (ap is_over e)) has

  -- the rows stay 28
  rows_step : (x : Counting) (r : List ℕ) → length (count_step p x r).counts.rows ≡ length x.counts.rows
  unfolding count_step
  rows_step x r = rows_all x.counts (made p x.state r)

  state_step : (x : Counting) (r : List ℕ) → state_came p.edition x.state ≡ true → state_came p.edition (count_step p x r).state ≡ true
  unfolding count_step
  state_step x r come = step_came p x.state r come

  -- ---- bursts

  -- what holds of a replay and its counts
  record Fine (x : Counting) : Type 0 where
    size : length x.counts.rows ≡ 28
    come : state_came p.edition x.state ≡ true
    has : counting_came x ≡ true

  run_fine : (x : Counting) (rs : List (List ℕ)) → Fine x → Fine (run (count_step p) x rs)
  unfolding run
  run_fine x [] f = f
  run_fine x (r ∷ rs) f =
      run_fine (count_step p x r) rs (record { size = rows_step x r ∙ f.size; come = state_step x r f.come; has = counts_step x r f.size f.come f.has })

  fed_fine : (w : Standing Counting) (b : List ℕ) → Fine w.state → Fine (fed (counter p) w b).state
  unfolding fed standing
  fed_fine w b f = run_fine w.state (taken (counter p).good w.held b) f

  all_fine : (w : Standing Counting) (bs : List (List ℕ)) → Fine w.state → Fine (fed_all (counter p) w bs).state
  unfolding fed_all
  all_fine w [] f = f
  all_fine w (b ∷ bs) f = all_fine (fed (counter p) w b) bs (fed_fine w b f)

  module _ (w : Standing Counting) (b : List ℕ) (size : length w.state.counts.rows ≡ 28) where
    -- rows are kept whatever the state
    pub rows_fed : length (fed (counter p) w b).state.counts.rows ≡ 28
    unfolding fed standing run
    rows_fed = go w.state (taken (counter p).good w.held b) size
      where
        go : (x : Counting) (rs : List (List ℕ)) → length x.counts.rows ≡ 28 → length (run (count_step p) x rs).counts.rows ≡ 28
        go x [] n = n
        go x (r ∷ rs) n = go (count_step p x r) rs (rows_step x r ∙ n)

    pub counts_fed : state_came p.edition w.state.state ≡ true → counting_came w.state ≡ true → counting_came (fed (counter p) w b).state ≡ true
    counts_fed come has = (fed_fine w b (record { size = size; come = come; has = has })).has

-- nothing is counted at the start
none_came : (m : List ℕ) → counting_came (record { state = begin m; counts = no_counts }) ≡ true
unfolding counts_came sum_of
none_came m = refl

pub all_counts_came : AllCountsCame
all_counts_came p m bs = (all_fine p (start (record { state = begin m; counts = no_counts })) bs (record { size = refl; come = begin_came p.edition m; has = none_came m })).has

each_counts : EachCounts
unfolding counts_came
each_counts records waits c = record {
  agreed = λ n. both (at_most _ _) (both (at_most _ _) (at_most _ _));
  differs = λ n at. both (at_most _ _) (both (at_most _ _) (at_most _ _));
  malformed = λ n. both (at_most _ _) (both (at_most _ _) (at_most _ _));
}

pub trace_count_claims : TraceCountClaims
unfolding sum_of sum_over count_step counted_all
trace_count_claims = record { goes_on = λ p x r. refl; none_made = λ c. refl; one_made = λ c x xs. refl; one_more = λ c row more. refl; sums_over = λ f. (refl, λ x xs. refl); sums = ((λ ns. refl), (λ k. refl), (λ k n ns. refl)); each_counts = each_counts; every_call_made = every_call_made; counts_of_calls = counts_of_calls; all_counts_came = all_counts_came; each_month = each_month; each_made = each_made; trace_count_readings = trace_count_readings }

-- The counts of a trace that comes in bursts are those of the calls over its records.
use mathlib.Core.Path.{◌≡◌, refl, sym, ap, ◌∙◌}
use mathlib.Core.Bool.{false, and-false}
use mathlib.Core.List.{List, [], ◌∷◌, ◌++◌}
use Prim.Native.Nat.{ℕ}
use native.Mathlib.Omega.{arith}
use Rattle.words.proofs.Choice.{decide}
use Rattle.records.specs.Records.{records}
use Rattle.records.specs.Cutting.{ripe, Standing, run, start, fed, ended, Sticky, fair, Stops, Alike}
use Rattle.records.proofs.Due.{short_raw, nothing_raw}
use Rattle.records.proofs.Feeding.{fed_raw}
use Rattle.records.proofs.Whole.{fair_ripe, over_records}
use Rattle.calls.specs.Buffer.{Left}
use Rattle.trace.specs.Trace.{good_frame, is_good}
use Rattle.trace.specs.Playing.{Platform, State, begin, stopped, step, reader}
use Rattle.trace.proofs.Reader.{stops, unfair_step}
use Rattle.counting.specs.declared.counts.Counts.{Counts}
use Rattle.counting.specs.Counts.{no_counts, counted}
use Rattle.counting.specs.OfTrace.{is_taken, made, calls_made, counted_all, counts_of, Counting, count_step, counter}
use Rattle.counting.specs.Claims.OfTrace.{CountsOfCalls}

-- ---- calls one after the other

counted_join : (c : Counts) (xs ys : List Left) → counted_all c (xs ++ ys) ≡ counted_all (counted_all c xs) ys
unfolding counted_all
counted_join c [] ys = refl
counted_join c (x ∷ xs) ys = counted_join (counted c x.number x.args x.memory) xs ys

module _ (p : Platform) where
  run_counts : (x : Counting) (rs : List (List ℕ)) → (run (count_step p) x rs).counts ≡ counted_all x.counts (calls_made p x.state rs)
  unfolding run calls_made count_step counted_all
  run_counts x [] = refl
  run_counts x (r ∷ rs) = run_counts (count_step p x r) rs ∙ sym (counted_join x.counts (made p x.state r) (calls_made p (step p x.state r) rs))

  -- ---- what the laws of bursts ask

  pub counter_state : (x : Counting) (r : List ℕ) → step p x.state r ≡ (count_step p x r).state
  unfolding count_step
  counter_state x r = refl

  pub counter_sticky : Sticky (counter p)
  unfolding count_step step is_taken made counted_all
  counter_sticky x r e = rw e

  -- a record that is cut off, or whose frame is not good, makes no call
  unfair_none : (s : State) (r : List ℕ) → fair (reader p) r ≡ false → made p s r ≡ []
  unfolding made is_taken is_good
  unfair_none s r f = simp (f, and-false)

  unfair_count : (x : Counting) (r : List ℕ) → fair (reader p) r ≡ false → count_step p x r ≡ record { state = step p x.state r; counts = x.counts }
  unfolding count_step counted_all
  unfair_count x r f = rw (unfair_none x.state r f)

  counter_stops : Stops (counter p)
  counter_stops x r f = rw (unfair_count x r f) (stops p x.state r f)

  counter_alike : Alike (counter p)
  counter_alike x r q f g = decide (stopped x.state)
      (λ e. counter_sticky x r e ∙ sym (counter_sticky x q e))
      (λ e. unfair_count x r f ∙ rw (unfair_step p x.state r e f, ← unfair_step p x.state q e g) (sym (unfair_count x q g)))

  -- ---- the end counts nothing

  ended_counts : (w : Standing Counting) → ripe good_frame w.held ≡ false → (ended (counter p) w).counts ≡ w.state.counts
  unfolding ended run
  ended_counts w raw = go w.held raw
    where
      go : (h : List ℕ) → ripe good_frame h ≡ false → (ended (counter p) (record { state = w.state; held = h })).counts ≡ w.state.counts
      go [] raw = refl
      go (b ∷ h) raw =
          let unfair : fair (reader p) (b ∷ h) ≡ false = decide (fair (reader p) (b ∷ h)) (λ f. absurd (omega (arith, fair_ripe good_frame (b ∷ h) f, short_raw good_frame (b ∷ h) raw))) (λ f. f) in
          ap (λ (x : Counting). x.counts) (unfair_count w.state (b ∷ h) unfair)

pub counts_of_calls : CountsOfCalls
unfolding counts_of
counts_of_calls p m trace =
    let from : Counting = record { state = begin m; counts = no_counts } in
    let w = fed (counter p) (start from) trace in
    sym (ended_counts p w (fed_raw (counter p) (start from) trace (nothing_raw good_frame)))
    ∙ ap (λ (x : Counting). x.counts) (sym (over_records (counter p) (counter_sticky p) (counter_stops p) (counter_alike p) trace from))
    ∙ run_counts p from (records trace)

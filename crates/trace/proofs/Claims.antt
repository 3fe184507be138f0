-- The claims of a trace hold.
use mathlib.Core.Path.{◌≡◌, refl, sym, ap, ◌∙◌}
use mathlib.Core.Bool.{false, true≢false}
use mathlib.Core.List.{List, [], ◌∷◌}
use Prim.Native.Nat.{ℕ, ◌+◌}
use native.Mathlib.Nat.{zero-add, add-zero}
use native.Mathlib.Omega.{arith}
use lib.ListN.{length}
use Rattle.words.proofs.Choice.{decide, choose}
use Rattle.records.specs.Records.{kind_of}
use Rattle.records.specs.Cutting.{run, start}
use Rattle.records.proofs.Feeding.{any_cutting, standing_start, fed_stopped, run_stopped}
use Rattle.records.proofs.Whole.{any_cutting_over}
use Rattle.trace.specs.Playing.{Platform, Waiting, none, call, State, agreed, stopped, faulted, kept, setting, calling, played, concluded, step, reader, begin, replay_of}
use Rattle.trace.specs.declared.report.Report.{Report}
use Rattle.trace.specs.declared.report.Report.TheVariants.{Agreed}
use Rattle.trace.specs.Trace.{is_before, is_after, is_setting, body_of, is_settable}
use Rattle.trace.specs.Claims.Trace.{RecordsCounted, AnyCutting, OverRecords, AgreedSame, StopsForGood, TraceClaims}
use Rattle.trace.proofs.Reader.{faulted_stopped, sticky, stops, alike, ways}
use Rattle.trace.proofs.Recording.{own_trace_agrees, difference_told}
use Rattle.trace.proofs.StepClaims.{each_replay}
use Rattle.trace.proofs.First.{is_differs, compared_ways, first_difference}
use Rattle.trace.proofs.Converse.{agreed_is_ours}
use Rattle.trace.proofs.TraceReadings.{trace_readings}
use Rattle.trace.proofs.SessionReadings.{session_readings}
use Rattle.trace.proofs.Came.{all_came}

any : AnyCutting
any p m bs = any_cutting (reader p) (sticky p) (start (begin m)) (standing_start (reader p) (begin m)) bs

over : OverRecords
unfolding replay_of
over p m bs = ap concluded (any_cutting_over (reader p) (sticky p) (stops p) (alike p) (begin m) bs)

-- ---- buffers that agree

agreed_same : AgreedSame
agreed_same calls number recorded ours =
    compared_ways calls recorded ours (λ (x : Report). x ≡ Agreed number → (recorded ≡ ours) × (number ≡ calls + 1)) (λ same e. (same, sym (ap agreed e))) (λ _ _ e. absurd (true≢false (ap is_differs e)))

stops_for_good : StopsForGood
stops_for_good p s b e = fed_stopped (reader p) (sticky p) (start s) b e

-- ---- how many records were taken

module _ (p : Platform) where
  module _ (s : State) (r : List ℕ) where
    -- a record that does not stop the replay is counted
    abbrev Counts : State → Type 0
    Counts x = stopped x ≡ false → x.records ≡ s.records + 1

    fault_counts : Counts (faulted s)
    fault_counts e = absurd (true≢false (sym (faulted_stopped s) ∙ e))

    played_counts : (w : Waiting) → Counts (played p s w (kind_of r) (body_of r))
    unfolding kept setting calling
    played_counts none = choose (is_before (kind_of r)) Counts (λ _ _. refl)
        (λ _. choose (is_setting (kind_of r)) Counts (λ _. choose (is_settable s.memory (body_of r)) Counts (λ _ _. refl) (λ _. fault_counts)) (λ _. fault_counts))
    played_counts (call args) = choose (is_after (kind_of r)) Counts (λ _ _. refl) (λ _. fault_counts)

    step_counts : stopped s ≡ false → Counts (step p s r)
    step_counts going = ways p s r going Counts fault_counts (λ _ _. played_counts s.waiting)

  run_counts : (s : State) (rs : List (List ℕ)) → stopped s ≡ false → stopped (run (step p) s rs) ≡ false → (run (step p) s rs).records ≡ s.records + length rs
  unfolding run
  run_counts s [] going e = sym (add-zero s.records)
  run_counts s (r ∷ rs) going e =
      let here : stopped (step p s r) ≡ false = decide (stopped (step p s r)) (λ t. absurd (true≢false (sym (ap stopped (run_stopped (reader p) (sticky p) (step p s r) rs t) ∙ t) ∙ e))) (λ t. t) in
      run_counts (step p s r) rs here e ∙ rw (step_counts s r going here) (omega arith)

records_counted : RecordsCounted
unfolding stopped
records_counted p m rs e = run_counts p (begin m) rs refl e ∙ zero-add (length rs)

pub trace_claims : TraceClaims
trace_claims = record { any_cutting = any; over_records = over; each_replay = each_replay; agreed_same = agreed_same; stops_for_good = stops_for_good; records_counted = records_counted; own_trace_agrees = own_trace_agrees; difference_told = difference_told; agreed_is_ours = agreed_is_ours; first_difference = first_difference; trace_readings = trace_readings; session_readings = session_readings; all_came = all_came }

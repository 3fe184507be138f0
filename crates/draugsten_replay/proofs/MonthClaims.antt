-- What is claimed of the month holds.
use Rattle.counting.proofs.Claims.{count_claims}
use Rattle.counting.proofs.CountsCame.{trace_count_claims}
use Rattle.totals.proofs.Claims.{totals_claims}
use Rattle.totals.proofs.Agreeing.{consistent_claims}
use Rattle.shares.proofs.Euclid.{share_claims}
use Rattle.draugsten_replay.specs.Claims.Month.{MonthClaims}
use Rattle.draugsten_replay.proofs.SessionClaims.{sessions_exactly}
use Rattle.draugsten_replay.proofs.MonthReadings.{month_readings}
use Rattle.draugsten_replay.proofs.Refusals.{refusals_in_order, added_consistent, merge_keeps, merge_taken, merged_months, share_from_sums}
use Rattle.draugsten_replay.proofs.SessionWitness.{whole_session_witness}
use Rattle.draugsten_replay.proofs.Sessions.{counting_accepted, whole_session}
use Rattle.draugsten_replay.proofs.Months.{month_sums, month_in_any_order, refused_keeps, month_consistent}

pub month_claims : MonthClaims
month_claims =
    record {
      sessions = sessions_exactly;
      counting_accepted = counting_accepted;
      whole_session = whole_session;
      whole_session_witness = whole_session_witness;
      month_sums = month_sums;
      month_in_any_order = month_in_any_order;
      refused_keeps = refused_keeps;
      month_consistent = month_consistent;
      refusals_in_order = refusals_in_order;
      added_consistent = added_consistent;
      merge_keeps = merge_keeps;
      merge_taken = merge_taken;
      merged_months = merged_months;
      share_from_sums = share_from_sums;
      month_readings = month_readings;
      of_calls = count_claims;
      of_traces = trace_count_claims;
      of_totals = totals_claims;
      of_merging = consistent_claims;
      of_shares = share_claims;
    }

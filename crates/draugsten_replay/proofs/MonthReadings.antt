-- The readings of the month, by one computed test.
use Rattle.words.specs.Numbers.{le, zeros}
use Rattle.records.specs.Records.{length_of, kind_of}
use Rattle.records.specs.Cutting.{due, ripe}
use Rattle.trace.specs.Trace.{good_frame}
use Rattle.trace.specs.Came.{registration_came, reading_came, came}
use Rattle.counting.specs.Figures.{sum_of}
use Rattle.counting.specs.CountsCame.{counts_came}
use Rattle.totals.specs.Adding.{sums, all_fit, added_to}
use Rattle.totals.specs.Consistent.{sum_from, calls_agree, words_agree, consistent}
use Rattle.shares.specs.Share.{divisor_in, share_of}
use Rattle.replay.specs.Feeding.{end_of}
use Rattle.replay_states.specs.States.{report_of, is_report, held_came, is_state, are_counts, judged_by}
use Rattle.draugsten_replay.specs.Month.{is_counting_by, judged_counting_by, counts_added, month_added, merged_to}
use Rattle.draugsten_replay.specs.Cases.Month.{MonthReadings}

pub month_readings : MonthReadings
unfolding le zeros length_of kind_of due ripe good_frame registration_came reading_came came sum_of counts_came sums all_fit added_to sum_from calls_agree words_agree consistent divisor_in share_of end_of report_of is_report held_came is_state are_counts judged_by is_counting_by judged_counting_by counts_added month_added merged_to
month_readings = tt

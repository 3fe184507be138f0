-- The witness of a session that is counted, computed.
use mathlib.Core.Path.{refl}
use mathlib.Core.Bool.{false≢true}
use Rattle.words.specs.Numbers.{be, le, be_bytes, word_bytes, zeros}
use Rattle.records.specs.Records.{length_of, kind_of, whole}
use Rattle.records.specs.Cutting.{due, ripe, taken, rest, run, standing, fed}
use Rattle.calls.specs.Buffer.{number_for, asks, outcome, call_of}
use Rattle.trace.specs.Trace.{good_frame, is_good, is_settable}
use Rattle.trace.specs.Playing.{stopped, faulted, kept, setting, common, compared, calling, step}
use Rattle.trace.specs.Came.{registration_came, reading_came, came}
use Rattle.counting.specs.Counts.{place_of, is_counted, handed_out, counted}
use Rattle.counting.specs.Figures.{sum_of}
use Rattle.counting.specs.OfTrace.{is_taken, made, counted_all, count_step}
use Rattle.counting.specs.CountsCame.{counts_came}
use Rattle.playing.specs.Lent.{lent_step}
use Rattle.replay.specs.Feeding.{completed}
use Rattle.replay_states.specs.States.{report_of, is_report, held_came, is_state, are_counts, judged_by}
use Rattle.draugsten_replay.specs.Month.{judged_counting_by}
use Rattle.draugsten_replay.specs.Claims.Month.{WholeSessionWitness}

pub whole_session_witness : WholeSessionWitness
unfolding be le be_bytes word_bytes zeros length_of kind_of whole due ripe taken rest run standing fed number_for asks outcome call_of good_frame is_good is_settable stopped faulted kept setting common compared calling step
    registration_came reading_came came place_of is_counted handed_out counted sum_of is_taken made counted_all count_step counts_came lent_step completed report_of is_report held_came is_state are_counts judged_by judged_counting_by
whole_session_witness = (
  record {
    number = refl;
    refused = λ h. absurd (h refl);
    replays = λ _. record {
      number = refl;
      refused = λ h. absurd (h refl);
      given = λ _. refl;
      lent = λ _. refl;
      whole = λ _. refl;
      behind = refl;
      stopped = λ _ e. absurd (false≢true e);
      again = λ _. refl;
      edition = refl;
    };
    counts = λ _. refl;
    again = λ _. refl;
  },
  (
    record {
      number = refl;
      refused = λ h. absurd (h refl);
      replays = λ _. record {
        number = refl;
        refused = λ h. absurd (h refl);
        given = λ _. refl;
        lent = λ _. refl;
        whole = λ _. refl;
        behind = refl;
        stopped = λ _ e. absurd (false≢true e);
        again = λ _. refl;
        edition = refl;
      };
      counts = λ _. refl;
      again = λ _. refl;
    },
    tt,
  ),
)

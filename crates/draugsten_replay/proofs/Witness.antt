-- The witness of a whole trace, computed.
use mathlib.Core.Path.{refl}
use mathlib.Core.Bool.{false≢true}
use Rattle.words.specs.Numbers.{be, le, zeros}
use Rattle.records.specs.Records.{length_of, kind_of, whole}
use Rattle.records.specs.Cutting.{due, ripe, taken, rest, run, standing, fed}
use Rattle.calls.specs.Buffer.{number_for, asks, outcome, call_of}
use Rattle.trace.specs.Trace.{good_frame, is_good, is_settable}
use Rattle.trace.specs.Playing.{stopped, faulted, kept, setting, common, compared, calling, step}
use Rattle.trace.specs.Came.{registration_came, reading_came, came}
use Rattle.playing.specs.Lent.{lent_step}
use Rattle.replay.specs.Feeding.{completed}
use Rattle.replay_states.specs.States.{report_of, is_report, held_came, is_state, judged_by}
use Rattle.draugsten_replay.specs.Claims.WholeTrace.{WholeTraceWitness}

pub whole_trace_witness : WholeTraceWitness
unfolding be le zeros length_of kind_of whole due ripe taken rest run standing fed number_for asks outcome call_of good_frame is_good is_settable stopped faulted kept setting common compared calling step registration_came
    reading_came came lent_step completed report_of is_report held_came is_state judged_by
whole_trace_witness = (
  record {
    number = refl;
    refused = λ h. absurd (h refl);
    given = λ _. refl;
    lent = λ _. refl;
    whole = λ _. refl;
    behind = refl;
    stopped = λ _ e. absurd (false≢true e);
    again = λ _. refl;
    edition = refl;
  },
  (
    record {
      number = refl;
      refused = λ h. absurd (h refl);
      given = λ _. refl;
      lent = λ _. refl;
      whole = λ _. refl;
      behind = refl;
      stopped = λ _ e. absurd (false≢true e);
      again = λ _. refl;
      edition = refl;
    },
    tt,
  ),
)

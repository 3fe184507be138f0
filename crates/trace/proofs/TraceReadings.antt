-- The readings of a replay, by one computed test.
use Rattle.words.specs.Numbers.{be, le, be_bytes, word_bytes}
use Rattle.records.specs.Records.{length_of, kind_of, records_from, records, whole}
use Rattle.records.specs.Cutting.{run}
use Rattle.calls.specs.Buffer.{number_for, asks, outcome, call_of}
use Rattle.dump.specs.Registration.{padded}
use Rattle.trace.specs.Trace.{good_frame, is_good, is_settable}
use Rattle.trace.specs.Playing.{stopped, faulted, kept, setting, common, compared, calling, step, concluded, replay_of}
use Rattle.trace.specs.Claims.Recording.{le_bytes, record_of}
use Rattle.trace.specs.Cases.Trace.{TraceReadings}

pub trace_readings : TraceReadings
unfolding be le be_bytes word_bytes length_of kind_of records_from records whole run number_for asks outcome call_of good_frame is_good is_settable stopped faulted kept setting
    common compared calling step concluded replay_of le_bytes record_of padded
trace_readings = tt

-- A replay as it crosses the C boundary, and which states are taken there (document 02, M-110).
use Rattle.std.specs.Prelude.{ℕ, ◌+◌, ◌-◌, Bool, true, cond, ◌&&◌, ◌||◌, not, List, leb, eqb, length, take, Option, Some, None, is_some}
use Rattle.records.specs.Cutting.{ripe}
use Rattle.crossing.specs.Registration.{flat_of, registration_of}
use Rattle.crossing.specs.Record.{flat_reading_of, reading_of}
use Rattle.trace.specs.declared.report.Report.{Report}
use Rattle.trace.specs.declared.report.Report.TheVariants.{Agreed, Differs, Malformed}
use Rattle.trace.specs.Trace.{good_frame}
use Rattle.trace.specs.Came.{waits_in, came}
use Rattle.counting.specs.declared.counts.Counts.{Counts}
use Rattle.counting.specs.Counts.{no_counts}
use Rattle.counting.specs.CountsCame.{counts_came}
use Rattle.replay.specs.declared.feeding.Replay.{Replay}
use Rattle.replay_states.specs.declared.state.FlatReport.{FlatReport}
use Rattle.replay_states.specs.declared.state.FlatReplay.{FlatReplay}

-- ---- a report: verdict 0 with the number of agreeing calls, 1 with the number of the call that differs and the offset, 2 with a record's number

abbrev pub flat_report : ℕ → ℕ → ℕ → FlatReport
flat_report verdict offset number = record { verdict = verdict; offset = offset; number = number }

abbrev pub flat_report_of : Report → FlatReport
flat_report_of (Agreed calls) = flat_report 0 0 calls
flat_report_of (Differs call offset) = flat_report 1 offset call
flat_report_of (Malformed number) = flat_report 2 0 number

unfoldable pub report_of : FlatReport → Report
report_of f = cond (eqb f.verdict 0) (Agreed f.number) (cond (eqb f.verdict 1) (Differs f.number f.offset) (Malformed f.number))

-- only a difference has an offset
unfoldable pub is_report : FlatReport → Bool
is_report f = cond (eqb f.verdict 1) true (leb f.verdict 2 && eqb f.offset 0)

-- ---- the state

-- the size of the body of the 32 that waits, if one does, by the number that is one more, or 0
abbrev pub waiting_in : ℕ → Option ℕ
waiting_in waiting = cond (eqb waiting 0) None (Some (waiting - 1))

abbrev pub waits : FlatReplay → Bool
waits f = is_some (waiting_in f.waiting)

-- with these counts
abbrev pub replay_with : FlatReplay → Counts → Replay
replay_with f counts =
    record {
      playing = record {
        records = f.records;
        report = report_of f.report;
        waiting = waiting_in f.waiting;
        edition = record { 0 = f.edition };
        registration = registration_of f.registration;
        reading = reading_of f.reading;
      };
      held = f.held;
      counts = counts;
    }

abbrev pub replay_in : FlatReplay → Replay
replay_in f = replay_with f no_counts

-- the 32 that waits, by a number
abbrev pub waiting_field : Option ℕ → ℕ
waiting_field None = 0
waiting_field (Some size) = size + 1

abbrev pub flat_replay_of : Replay → FlatReplay
flat_replay_of r =
    record {
      records = r.playing.records;
      report = flat_report_of r.playing.report;
      held = r.held;
      waiting = waiting_field r.playing.waiting;
      edition = r.playing.edition.0;
      registration = flat_of r.playing.registration;
      reading = flat_reading_of r.playing.reading;
    }

-- ---- which states are taken

-- Held bytes make no record yet, and nothing is held once a replay has stopped.
unfoldable pub held_came : ℕ → ℕ → Bool
held_came verdict held = eqb held 0 || (eqb verdict 0 && leb held 4103)

unfoldable pub is_state : FlatReplay → Bool
is_state f =
    is_report f.report
    && (came (record { 0 = f.edition }) f.records f.waiting (report_of f.report) (registration_of f.registration) (reading_of f.reading)
    && held_came f.report.verdict f.held)

-- Counts that can have come beside it.
unfoldable pub are_counts : FlatReplay → Counts → Bool
are_counts f c = counts_came (report_of f.report) f.records (waits_in f.waiting) c

-- The number that a burst is refused with, or 0. 15: a buffer without room for any record, or for any body. 14: a state that no start or feed gives, or
-- held bytes that make a record.
unfoldable pub judged_by : List ℕ → ℕ → FlatReplay → ℕ
judged_by held room f =
    cond (leb 4104 (length held) && leb 4100 room)
    (cond (is_state f && not (ripe good_frame (take f.held held))) 0 14)
    15

abbrev pub judged : List ℕ → List ℕ → FlatReplay → ℕ
judged held args f = judged_by held (length args) f

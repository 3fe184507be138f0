-- Terms of contracts inside the crate.
use Rattle.std.specs.Prelude.{ℕ, ◌+◌, ◌≤◌, ◌≡◌, false, cond, List, length, take, Some, None, is_some}
use Rattle.std.proofs.lemmas.List.Edits.{sets}
use Rattle.records.specs.Cutting.{due}
use Rattle.dump.specs.declared.registration.Registration.{Registration}
use Rattle.calls.specs.declared.reading_record.ReadingRecord.{ReadingRecord}
use Rattle.calls.specs.Buffer.{Left}
use Rattle.trace.specs.declared.report.Report.{Report}
use Rattle.trace.specs.declared.report.Report.TheVariants.{Malformed}
use Rattle.playing.specs.declared.playing.Playing.{Playing}
use Rattle.trace.specs.Trace.{good_frame, address_in, bytes_in, is_settable}
use Rattle.trace.specs.Playing.{Platform, is_over, agreed, call_over, compared}
use Rattle.playing.specs.Lent.{lent_step}
use Rattle.playing.specs.Played.{lent_of}
use Rattle.playing.specs.Claims.Played.{Steady}

-- ---- what a record makes of the struct

-- one record more, with a report, and with what a call left
abbrev pub played_on : Playing → Report → Registration → ReadingRecord → Playing
played_on t report registration reading =
    record { records = t.records + 1; report = report; waiting = None; edition = t.edition; registration = registration; reading = reading }

-- a 32 of so many bytes waits
abbrev pub kept_by : Playing → ℕ → Playing
kept_by t n = record {
  records = t.records + 1;
  report = t.report;
  waiting = Some n;
  edition = t.edition;
  registration = t.registration;
  reading = t.reading;
}

-- a malformed record stops it
abbrev pub faulted_by : Playing → Playing
faulted_by t =
    record {
      records = t.records;
      report = Malformed (cond (is_some t.waiting) t.records (t.records + 1));
      waiting = t.waiting;
      edition = t.edition;
      registration = t.registration;
      reading = t.reading;
    }

-- a 34, where the replay stands over this memory, and memory afterwards
abbrev pub set_by : List ℕ → Playing → List ℕ → Playing
set_by m t body = cond (is_settable m body) (played_on t t.report t.registration t.reading) (faulted_by t)

abbrev pub memory_set : List ℕ → List ℕ → List ℕ
memory_set m body = cond (is_settable m body) (sets m (address_in body) (bytes_in body)) m

-- a 33: what the call of the 32 that waits leaves, and what comes of it
abbrev pub left_by : Platform → List ℕ → List ℕ → Playing → ℕ → Left
left_by p m args t size = call_over p m t.registration t.reading (take size args)

abbrev pub called_by : Left → Playing → List ℕ → Playing
called_by x t body = played_on t (compared (agreed t.report) body x.args) x.registration x.reading

-- A record is played: the replay stands and the lent buffer is as the definition says, steady, over the same edition.
pub record Plays (p : Platform) (args memory : List ℕ) (t : Playing) (item argsThen memoryThen : List ℕ) (r : Playing) : Type 0 where
  pub same : lent_of argsThen memoryThen r ≡ lent_step p (lent_of args memory t) item
  pub steady : Steady argsThen r
  pub edition : r.edition ≡ t.edition

-- a record that is cut out whole, or by its first four bytes where these are not good, and that comes before anything has stopped the replay
pub record Playable (args : List ℕ) (t : Playing) (item : List ℕ) : Type 0 where
  pub steady : Steady args t
  pub going : is_over t.report ≡ false
  pub four : 4 ≤ length item
  pub cut : due good_frame item ≡ length item

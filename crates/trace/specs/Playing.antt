-- The replay of a trace as a run over its records (document 02, M-110).
use Rattle.std.specs.Prelude.{ℕ, suc, ◌+◌, Bool, true, false, cond, ◌&&◌, List, [], ◌∷◌, leb, eqb, length}
use Rattle.std.proofs.lemmas.List.Edits.{sets}
use Rattle.records.specs.Records.{kind_of, records}
use Rattle.records.specs.Cutting.{Reader, run}
use Rattle.inventory.specs.declared.edition.Edition.{Edition}
use Rattle.dump.specs.declared.registration.Registration.{Registration}
use Rattle.dump.specs.Registration.{no_registration}
use Rattle.calls.specs.declared.reading_record.ReadingRecord.{ReadingRecord}
use Rattle.calls.specs.ReadingRecord.{no_reading}
use Rattle.calls.specs.Buffer.{found, Left, call_of}
use Rattle.trace.specs.declared.report.Report.{Report}
use Rattle.trace.specs.declared.report.Report.TheVariants.{Agreed, Differs, Malformed}
use Rattle.trace.specs.Trace.{is_before, is_after, is_setting, body_of, good_frame, is_good, address_in, bytes_in, is_settable}

-- "Replay over a given journal, inventory with its edition, and memory"
pub record Platform : Type 0 where
  pub journal : List ℕ
  pub inventory : List ℕ
  pub edition : Edition

-- the body of the 32 that waits for its 33, if one does
pub data Waiting : Type 0 where
  none : Waiting
  call : List ℕ → Waiting

-- Where a replay stands: how many records it has taken, what it came to so far, the 32 that waits, and what its calls left.
pub record State : Type 0 where
  pub records : ℕ
  pub report : Report
  pub waiting : Waiting
  pub memory : List ℕ
  pub registration : Registration
  pub reading : ReadingRecord

-- "starting with no registration and no reading in progress"
abbrev pub begin : List ℕ → State
begin m = record { records = 0; report = Agreed 0; waiting = none; memory = m; registration = no_registration; reading = no_reading }

-- a difference and a fault stop the replay
abbrev pub is_over : Report → Bool
is_over (Agreed calls) = false
is_over (Differs n at) = true
is_over (Malformed n) = true

unfoldable pub stopped : State → Bool
stopped s = is_over s.report

-- how many calls agreed while nothing has stopped the replay
abbrev pub agreed : Report → ℕ
agreed (Agreed calls) = calls
agreed (Differs n at) = 0
agreed (Malformed n) = 0

-- ---- what a record does

-- "a 32 without a good 33 right after it (the 32's number; its call isn't run)"; of anything else the record's own number
abbrev pub blamed : ℕ → Waiting → ℕ
blamed n none = n + 1
blamed n (call args) = n

unfoldable pub faulted : State → State
faulted s = record {
  records = s.records;
  report = Malformed (blamed s.records s.waiting);
  waiting = s.waiting;
  memory = s.memory;
  registration = s.registration;
  reading = s.reading;
}

-- a 32 waits
unfoldable pub kept : State → List ℕ → State
kept s body = record {
  records = s.records + 1;
  report = s.report;
  waiting = call body;
  memory = s.memory;
  registration = s.registration;
  reading = s.reading;
}

-- a 34 sets memory; a bad one sets no byte at all
unfoldable pub setting : State → List ℕ → State
setting s body =
    cond (is_settable s.memory body)
    (record {
      records = s.records + 1;
      report = s.report;
      waiting = s.waiting;
      memory = sets s.memory (address_in body) (bytes_in body);
      registration = s.registration;
      reading = s.reading;
    })
    (faulted s)

-- how many bytes two buffers have in common from their start on
unfoldable pub common : List ℕ → List ℕ → ℕ
common [] ys = 0
common (x ∷ xs) [] = 0
common (x ∷ xs) (y ∷ ys) = cond (eqb x y) (suc (common xs ys)) 0

-- "the first call whose recorded buffer differs from ours in length or any byte, with the first differing offset (the shorter length if they agree
-- so far), or the number of agreeing calls"
unfoldable pub compared : ℕ → List ℕ → List ℕ → Report
compared calls recorded ours =
    let same = common recorded ours in
    cond (eqb same (length recorded) && eqb same (length ours)) (Agreed (calls + 1)) (Differs (calls + 1) same)

-- what the call of an argument buffer leaves, over memory, registration and reading record
abbrev pub call_over : Platform → List ℕ → Registration → ReadingRecord → List ℕ → Left
call_over p memory registration reading args = call_of (found args memory p.journal p.inventory p.edition registration reading)

-- and where a replay stands
abbrev pub called : Platform → State → List ℕ → Left
called p s args = call_over p s.memory s.registration s.reading args

-- a 32 and its 33 are a call, run on a copy of the 32's body
unfoldable pub calling : Platform → State → List ℕ → List ℕ → State
calling p s args body =
    let x : Left = called p s args in
    record {
      records = s.records + 1;
      report = compared (agreed s.report) body x.args;
      waiting = none;
      memory = x.memory;
      registration = x.registration;
      reading = x.reading;
    }

-- a good record, by what waits and its kind
abbrev pub played : Platform → State → Waiting → ℕ → List ℕ → State
played p s (call args) kind body = cond (is_after kind) (calling p s args body) (faulted s)
played p s none kind body = cond (is_before kind) (kept s body) (cond (is_setting kind) (setting s body) (faulted s))

-- In this order: a report, the limit ("any record after number 4,294,967,295"), whether the record is good, what waits, the kind.
unfoldable pub step : Platform → State → List ℕ → State
step p s r =
    cond (stopped s) s
    (cond (leb (s.records + 1) 4_294_967_295 && is_good r)
    (played p s s.waiting (kind_of r) (body_of r))
    (faulted s))

-- ---- the whole trace

-- the end: a 32 still waits
abbrev pub unanswered : State → Waiting → State
unanswered s none = s
unanswered s (call args) = faulted s

unfoldable pub concluded : State → State
concluded s = cond (stopped s) s (unanswered s s.waiting)

-- The replay of a whole trace: report, memory, registration and reading record.
unfoldable pub replay_of : Platform → List ℕ → List ℕ → State
replay_of p m trace = concluded (run (step p) (begin m) (records trace))

-- the reader of a trace that comes in bursts
abbrev pub reader : Platform → Reader State
reader p = record { good = good_frame; step = step p; stopped = stopped }

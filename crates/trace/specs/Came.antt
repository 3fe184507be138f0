-- What holds of every state that a replay can come to from a start, over some journal, inventory and memory (document 02, M-110). At the C boundary a
-- state that breaks
-- one of these rules is refused.
use Rattle.std.specs.Prelude.{ℕ, ◌+◌, Bool, cond, ◌&&◌, leb, ltb, eqb, length, take, drop}
use Rattle.words.specs.Numbers.{zeros}
use Rattle.inventory.specs.declared.edition.Edition.{Edition}
use Rattle.dump.specs.declared.registration.Registration.{Registration}
use Rattle.dump.specs.Structure.{good_structure}
use Rattle.dump.specs.Registration.{is_none, is_registered, copy_size}
use Rattle.calls.specs.declared.reading_record.ReadingRecord.{ReadingRecord}
use Rattle.calls.specs.GetIndices.{askable}
use Rattle.trace.specs.declared.report.Report.{Report}
use Rattle.trace.specs.declared.report.Report.TheVariants.{Agreed, Differs, Malformed}
use Rattle.trace.specs.Playing.{Waiting, none, call, State}

-- ---- what calls leave

-- No registration, or a good structure with zero bytes behind it; active comes of a dump, which no replay runs.
unfoldable pub registration_came : Registration → Bool
registration_came r =
    cond (is_none r.phase)
    (eqb r.len 0 && zeros r.copy)
    (is_registered r.phase && (leb r.len copy_size && (good_structure (take r.len r.copy) && zeros (drop r.len r.copy))))

-- whether a reading is in progress: its number is behind the first
abbrev pub in_progress : ReadingRecord → Bool
in_progress r = ltb 1 r.number.0

-- No reading in progress, or one of a flag and type that can be asked for, and of the replay's edition, at an entry that an inventory can have: of
-- 1,048,576 bytes an entry takes 15 or more.
unfoldable pub reading_came : Edition → ReadingRecord → Bool
reading_came e r =
    cond (in_progress r)
    (leb r.number.0 69_905 && (askable r.flag r.item_type && eqb r.edition.0 e.0))
    (eqb r.flag 0 && (eqb r.item_type 0 && (eqb r.number.0 1 && eqb r.edition.0 0)))

-- how many calls it took at least
abbrev pub calls_for : Registration → ReadingRecord → ℕ
calls_for r d = cond (is_registered r.phase) 1 0 + cond (in_progress d) 1 0

-- ---- what records leave

-- the 32 that waits, by a number: 0 where none does, otherwise one more than its size
abbrev pub waiting_number : Waiting → ℕ
waiting_number none = 0
waiting_number (call args) = length args + 1

-- how many records wait: one or none
abbrev pub waits_in : ℕ → ℕ
waits_in waiting = cond (eqb waiting 0) 0 1

-- A call is two records, and the 32 that waits is one. A difference lies before the end of a body, and nothing waits behind it.
abbrev pub report_came : Report → ℕ → ℕ → ℕ → Bool
report_came (Agreed calls) records waits least = leb least calls && leb (calls + calls + waits) records
report_came (Differs number at) records waits least = eqb waits 0 && (leb 1 number && (leb least number && (leb (number + number) records && leb at 4099)))
report_came (Malformed number) records waits least = eqb (number + waits) (records + 1) && leb (least + least + waits) records

unfoldable pub came : Edition → ℕ → ℕ → Report → Registration → ReadingRecord → Bool
came e records waiting report registration reading =
    leb records 4_294_967_295
    && (leb waiting 4101
    && (report_came report records (waits_in waiting) (calls_for registration reading)
    && (registration_came registration && reading_came e reading)))

unfoldable pub state_came : Edition → State → Bool
state_came e s = came e s.records (waiting_number s.waiting) s.report s.registration s.reading

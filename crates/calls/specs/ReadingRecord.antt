-- The record of a partition's reading in progress (document 02, M-105: "Each partition has a record of the reading in progress, changed in
-- place: flag, type, next Starting Number and the inventory's 32-bit edition number").
use Rattle.std.specs.Prelude.{ℕ, Bool, ◌&&◌, ◌||◌, eqb}
use Rattle.inventory.specs.declared.edition.Edition.{Edition}
use Rattle.calls.specs.declared.request.Request.{Request}
use Rattle.calls.specs.declared.reading_record.ReadingRecord.{ReadingRecord}
use Rattle.calls.specs.declared.status.Status.{Status}
use Rattle.calls.specs.declared.status.Status.TheVariants.{Done, Again, Malformed, Parameter, Changed, AlreadyRegistered, DumpActive}

-- "no reading in progress", which a partition starts with: "every number but 1 differs"
abbrev pub no_reading : ReadingRecord
no_reading = record { flag = 0; item_type = 0; number = record { 0 = 1 }; edition = record { 0 = 0 } }

-- "Starting Number 1 always begins afresh."
unfoldable pub begins : Request → Bool
begins q = eqb q.number.0 1

-- "-3 when flag, type or number differ from the record", unless the number is 1
unfoldable pub is_named : ReadingRecord → Request → Bool
is_named r q = begins q || (eqb q.flag r.flag && (eqb q.item_type r.item_type && eqb q.number.0 r.number.0))

-- "-4 when the edition differs", unless the number is 1
unfoldable pub is_current : ReadingRecord → Edition → Request → Bool
is_current r e q = begins q || eqb e.0 r.edition.0

-- What a get-indices call leaves of the record, by its status, what it was asked for, the next number and the edition. "A refused call keeps the record, but -4
-- clears it, as does status 0"; with status 1 it names the first entry not yet handed out.
unfoldable pub record_after : Status → Request → ℕ → Edition → ReadingRecord → ReadingRecord
record_after Done q next e r = no_reading
record_after Again q next e r = record { flag = q.flag; item_type = q.item_type; number = record { 0 = next }; edition = e }
record_after Malformed q next e r = r
record_after Parameter q next e r = r
record_after Changed q next e r = no_reading
record_after AlreadyRegistered q next e r = r
record_after DumpActive q next e r = r

-- The calls at the C boundary, by one computed test.
use Rattle.words.specs.Numbers.{be, le, be_bytes, word_bytes}
use Rattle.records.specs.Records.{length_of, kind_of, records_from, records, whole, all_good, well_formed_by}
use Rattle.records.specs.Choosing.{chosen_by}
use Rattle.inventory.specs.Inventory.{code_limit, flag_of, type_of, index_of, code_of, all_non_zero, good_head, good_code, good_record, well_formed}
use Rattle.inventory.specs.Listing.{matches, listed}
use Rattle.indices.specs.Area.{code_field, entry_bytes, entries_bytes, fitting, run, answer, written}
use Rattle.calls.specs.Lent.{part_at, with_part}
use Rattle.calls.specs.ReadingRecord.{begins, is_named, is_current, record_after}
use Rattle.calls.specs.GetIndices.{askable, lendable, good_number, due_fits, more_entries, list_status, reading_status, indices_status, indices_memory, next_number}
use Rattle.calls.specs.Buffer.{number_for, asks, indices_outcome, outcome, call_of}
use Rattle.crossing.specs.Registration.{is_registration}
use Rattle.draugsten.specs.Registration.{flat_call_of}
use Rattle.draugsten.specs.Claims.Crossing.{RecordCrosses}

pub record_crosses : RecordCrosses
unfolding be le be_bytes word_bytes length_of kind_of records_from records whole all_good well_formed_by chosen_by code_limit flag_of type_of index_of code_of all_non_zero good_head
    good_code good_record well_formed matches listed code_field entry_bytes entries_bytes fitting run answer written part_at with_part begins is_named is_current record_after
    askable lendable good_number due_fits more_entries list_status reading_status indices_status indices_memory next_number number_for asks indices_outcome outcome call_of
    is_registration flat_call_of
record_crosses = tt

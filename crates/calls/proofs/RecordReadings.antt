-- The readings of the reading record, by one computed test.
use Rattle.words.specs.Numbers.{be, le, be_bytes, word_bytes}
use Rattle.records.specs.Records.{length_of, kind_of, records_from, records, whole, all_good, well_formed_by}
use Rattle.records.specs.Choosing.{chosen_by}
use Rattle.inventory.specs.Inventory.{code_limit, flag_of, type_of, index_of, code_of, all_non_zero, good_head, good_code, good_record, well_formed}
use Rattle.inventory.specs.Listing.{matches, listed}
use Rattle.inventory.specs.Edition.{edit_of}
use Rattle.indices.specs.Area.{code_field, entry_bytes, entries_bytes, fitting, run, answer, written}
use Rattle.calls.specs.Lent.{part_at, with_part}
use Rattle.calls.specs.ReadingRecord.{begins, is_named, is_current, record_after}
use Rattle.calls.specs.GetIndices.{askable, lendable, good_number, due_fits, more_entries, list_status, reading_status, indices_status, indices_memory, next_number}
use Rattle.journal.specs.Journal.{well_formed as journalFormed, entries}
use Rattle.journal.specs.Scope.{negative, valid, row_of, units_of}
use Rattle.journal.specs.Reportable.{reportable, operand_words}
use Rattle.node_area.specs.Head.{is_reserved}
use Rattle.nodes.specs.Run.{present, cost, longest, remains, next_state}
use Rattle.nodes.specs.Run as node-run
use Rattle.nodes.specs.Area.{operands_of, body}
use Rattle.nodes.specs.Area as node-area
use Rattle.words.specs.Numbers.{zeros}
use Rattle.dump.specs.Registration.{acceptable, verdict_of, registration_after}
use Rattle.calls.specs.UpdateNodes.{placed, good_state, area_status, area_after, nodes_status, nodes_memory}
use Rattle.calls.specs.UpdateProperties.{properties_status, properties_memory}
use Rattle.calls.specs.ConfigureDump.{dump_status}
use Rattle.calls.specs.Buffer.{number_for, asks, nodes_outcome, indices_outcome, dump_outcome, properties_outcome, outcome, call_of}
use Rattle.calls.specs.Cases.ReadingRecord.{RecordReadings}

pub record_readings : RecordReadings
unfolding be le be_bytes word_bytes length_of kind_of records_from records whole all_good well_formed_by chosen_by code_limit flag_of type_of index_of code_of all_non_zero good_head
    good_code good_record well_formed matches listed edit_of code_field entry_bytes entries_bytes fitting run answer written part_at with_part begins is_named
    is_current record_after askable lendable good_number due_fits more_entries list_status reading_status indices_status indices_memory next_number number_for asks
    nodes_outcome indices_outcome dump_outcome properties_outcome outcome call_of journalFormed entries negative valid row_of units_of reportable operand_words is_reserved present cost longest remains
    next_state node-run.run operands_of body node-area.answer node-area.written zeros acceptable verdict_of registration_after placed good_state area_status area_after nodes_status nodes_memory
    properties_status properties_memory dump_status
record_readings = tt

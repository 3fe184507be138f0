-- The sessions of answered calls, by one computed test.
use Rattle.words.specs.Numbers.{be, le, be_bytes, word_bytes, words, zeros}
use Rattle.records.specs.Records.{length_of, kind_of, records_from, records, whole, all_good, well_formed_by}
use Rattle.records.specs.Choosing.{chosen_by}
use Rattle.journal.specs.Property.{name_of, value_of, property_frame, good_property}
use Rattle.journal.specs.Journal.{good_frame, node_type, good_node, good_record, well_formed, operation_of, unit_of, entries}
use Rattle.journal.specs.Scope.{negative, valid, row_of, units_of}
use Rattle.journal.specs.Reportable.{reports, reportable, operand_words}
use Rattle.node_area.specs.Head.{is_reserved}
use Rattle.nodes.specs.Run.{present, cost, longest, run, remains, next_state}
use Rattle.nodes.specs.Area.{operands_of, body, answer, written}
use Rattle.node_area.specs.Reading.{fault_of, last_after, verdict, operations_at, reading}
use Rattle.calls.specs.Lent.{part_at, with_part}
use Rattle.calls.specs.UpdateNodes.{placed, good_state, area_status, area_after, nodes_status, nodes_memory}
use Rattle.inventory.specs.Inventory.{code_limit, flag_of, type_of, index_of, code_of, all_non_zero, good_head, good_code}
use Rattle.inventory.specs.Inventory as inventory
use Rattle.inventory.specs.Listing as listing
use Rattle.indices.specs.Area.{code_field, entry_bytes, entries_bytes, fitting}
use Rattle.indices.specs.Area as index-area
use Rattle.indices.specs.Reading.{length_at, field_at, good_length, good_field, fault_at, read_from}
use Rattle.indices.specs.Reading as index-reading
use Rattle.calls.specs.ReadingRecord.{begins, is_named, is_current, record_after}
use Rattle.calls.specs.GetIndices.{askable, lendable, good_number, due_fits, more_entries, list_status, reading_status, indices_status, indices_memory, next_number}
use Rattle.words.specs.Nul.{until_nul, is_ended}
use Rattle.dump.specs.Structure.{good_header, each_section, good_type, good_section, requested, without_disk, good_path, good_structure}
use Rattle.dump.specs.Registration.{acceptable, verdict_of, registration_after, padded}
use Rattle.calls.specs.ConfigureDump.{dump_status}
use Rattle.calls.specs.Buffer.{number_for, asks, nodes_outcome, indices_outcome, dump_outcome, outcome, call_of}
use Rattle.trace.specs.Trace as trace
use Rattle.records.specs.Cutting as cutting
use Rattle.trace.specs.Playing.{stopped, faulted, kept, setting, common, compared, calling, step, concluded, replay_of}
use Rattle.trace.specs.Claims.Recording.{le_bytes, record_of}
use Rattle.trace.specs.Cases.Session.{SessionReadings}

pub session_readings : SessionReadings
unfolding be le be_bytes word_bytes words zeros length_of kind_of records_from records whole all_good well_formed_by good_frame node_type good_node good_record well_formed operation_of unit_of entries negative valid row_of units_of reports chosen_by reportable operand_words present cost longest run remains next_state operands_of body answer written fault_of last_after verdict operations_at reading part_at with_part placed good_state area_status area_after nodes_status nodes_memory flag_of type_of index_of code_of all_non_zero good_code inventory.good_record inventory.well_formed listing.matches listing.listed code_field entry_bytes entries_bytes fitting index-area.run index-area.answer index-area.written length_at field_at good_length good_field fault_at read_from index-reading.reading askable lendable good_number due_fits more_entries list_status reading_status is_named is_current begins record_after indices_status indices_memory next_number until_nul is_ended name_of value_of property_frame good_property good_header each_section good_type good_section requested without_disk good_path good_structure acceptable verdict_of registration_after padded dump_status number_for asks nodes_outcome indices_outcome dump_outcome outcome call_of code_limit good_head is_reserved trace.good_frame trace.is_good trace.is_settable cutting.run stopped faulted kept setting common compared calling step concluded replay_of le_bytes record_of
session_readings = tt

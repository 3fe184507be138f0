-- The readings of update-properties, by one computed test.
use Rattle.words.specs.Numbers.{be, le, be_bytes, word_bytes, words, zeros}
use Rattle.words.specs.Nul.{until_nul, is_ended}
use Rattle.records.specs.Records.{length_of, kind_of, records_from, records, whole, all_good, well_formed_by}
use Rattle.records.specs.Choosing.{chosen_by}
use Rattle.journal.specs.Property.{name_of, value_of, property_frame, good_property}
use Rattle.journal.specs.Journal.{good_frame, node_type, good_node, good_record, well_formed, operation_of, unit_of, entries}
use Rattle.journal.specs.Scope.{negative, valid, row_of, units_of}
use Rattle.journal.specs.Reportable.{reports, reportable, operand_words}
use Rattle.node_area.specs.Head as node-head
use Rattle.node_area.specs.Reading.{fault_of, last_after, verdict, operations_at}
use Rattle.node_area.specs.Reading as node-reading
use Rattle.nodes.specs.Run.{present, cost, longest, run, remains, next_state}
use Rattle.nodes.specs.Area.{operands_of, body}
use Rattle.nodes.specs.Area as node-area
use Rattle.property_area.specs.Head.{is_reserved}
use Rattle.property_area.specs.Piece.{piece_bytes, pieces_bytes}
use Rattle.property_area.specs.Reading.{name_at, judged_at, read_from, reading}
use Rattle.property_area.specs.Area.{answer, written}
use Rattle.properties.specs.Changes.{is_of, changes_from, due_at}
use Rattle.properties.specs.Filling.{fill}
use Rattle.properties.specs.Session.{cuts, room_behind, begins, value_room, stops, room_after, boundaries, states, member}
use Rattle.properties.specs.Answer.{carries, handed, outcome_of, area_after}
use Rattle.calls.specs.Lent.{part_at, with_part}
use Rattle.calls.specs.UpdateNodes.{placed, good_state, area_status, nodes_status, nodes_memory}
use Rattle.calls.specs.UpdateNodes as update-nodes
use Rattle.calls.specs.UpdateProperties.{properties_status, properties_memory}
use Rattle.calls.specs.Buffer.{number_for, asks, nodes_outcome, properties_outcome, outcome, call_of}
use Rattle.calls.specs.Cases.Properties.{PropertyReadings}

pub property_readings : PropertyReadings
unfolding be le be_bytes word_bytes words zeros until_nul is_ended length_of kind_of records_from records whole all_good well_formed_by chosen_by name_of value_of property_frame good_property good_frame node_type good_node good_record well_formed operation_of unit_of entries negative valid row_of units_of reports reportable operand_words node-head.is_reserved fault_of last_after verdict operations_at node-reading.reading present cost longest run remains next_state operands_of body node-area.answer node-area.written is_reserved piece_bytes pieces_bytes name_at judged_at read_from reading answer written is_of changes_from due_at fill cuts room_behind begins value_room stops room_after boundaries states member carries handed outcome_of area_after part_at with_part placed good_state area_status nodes_status nodes_memory update-nodes.area_after properties_status properties_memory number_for asks nodes_outcome properties_outcome outcome call_of
property_readings = tt

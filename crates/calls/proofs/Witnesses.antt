-- The sessions of the witnesses, by computing them.
use mathlib.Core.Path.{◌≡◌, refl}
use mathlib.Core.Bool.{Bool, true, ◌&&◌, false≢true}
use mathlib.Core.List.{List, [], ◌∷◌}
use Prim.Native.Nat.{ℕ, zero, suc}
use native.Mathlib.Omega.{arith}
use lib.Dec.{ltb}
use borrow.Author.Tests.{ltb-true, leb-true}
use Rattle.words.specs.Numbers.{Bytes, be, le, be_bytes, word_bytes, zeros}
use Rattle.words.specs.Nul.{until_nul, is_ended}
use Rattle.words.proofs.Choice.{and_left, and_right}
use Rattle.records.specs.Records.{records, records_from, whole, all_good, well_formed_by, length_of, kind_of}
use Rattle.records.specs.Choosing.{chosen_by}
use Rattle.journal.specs.Property.{name_of, value_of, property_frame, good_property}
use Rattle.journal.specs.Journal.{good_frame, node_type, good_node, good_record, well_formed, operation_of, unit_of, entries}
use Rattle.journal.specs.Scope.{negative, valid, row_of, units_of}
use Rattle.journal.specs.Reportable.{reports, reportable, operand_words}
use Rattle.node_area.specs.Head.{is_reserved}
use Rattle.nodes.specs.Run.{present, cost, longest, run, remains, next_state}
use Rattle.nodes.specs.Area.{operands_of, body, answer, written}
use Rattle.property_area.specs.Head as property-head
use Rattle.property_area.specs.Piece.{piece_bytes, pieces_bytes}
use Rattle.property_area.specs.Area as property-area
use Rattle.properties.specs.Changes.{is_of, changes_from, properties, due_at}
use Rattle.properties.specs.Filling.{fill, weight}
use Rattle.properties.specs.Session.{cuts, begins, value_room, stops, boundaries, states, member}
use Rattle.properties.specs.Answer.{carries, handed, outcome_of}
use Rattle.properties.specs.Answer as answers
use Rattle.inventory.specs.Inventory.{code_limit, flag_of, type_of, index_of, code_of, all_non_zero, good_head, good_code}
use Rattle.inventory.specs.Inventory as inventory
use Rattle.inventory.specs.Listing as listing
use Rattle.indices.specs.Area.{code_field, entry_bytes, entries_bytes, fitting}
use Rattle.indices.specs.Area as index-area
use Rattle.calls.specs.Claims.Terms.{naming}
use Rattle.calls.specs.Lent.{part_at, with_part}
use Rattle.calls.specs.UpdateNodes.{placed, good_state, area_status, area_after, nodes_status, nodes_memory}
use Rattle.calls.specs.ReadingRecord as reading-record
use Rattle.calls.specs.ReadingRecord.{is_named, is_current, record_after}
use Rattle.inventory.specs.Edition.{edit_of}
use Rattle.calls.specs.Claims.Events.{begun_after}
use Rattle.calls.specs.GetIndices.{askable, lendable, good_number, due_fits, more_entries, list_status, reading_status, indices_status, indices_memory, next_number}
use Rattle.calls.specs.UpdateProperties.{properties_status, properties_memory}
use Rattle.calls.specs.Buffer.{number_for, asks, nodes_outcome, indices_outcome, properties_outcome, outcome, call_of, answered}
use Rattle.calls.specs.Claims.Session.{after_call, none, counted, passed}
use Rattle.calls.specs.Cases.Witnesses.{additions, nodes_call, functions, unit_call, NodesWitness, sensors, indices_call, IndicesWitness, few, added, EditionWitness, changed, properties_call, PropertiesWitness}

-- a list of bytes, tested element by element
abbrev all_below : List ℕ → Bool
all_below [] = true
all_below (x ∷ xs) = ltb x 256 && all_below xs

bytes_by : (s : List ℕ) → all_below s ≡ true → Bytes s
bytes_by [] e i = omega arith
bytes_by (x ∷ xs) e zero = ltb-true x 256 (and_left _ _ e)
bytes_by (x ∷ xs) e (suc i) = bytes_by xs (and_right (ltb x 256) _ e) i

pub nodes_witness : NodesWitness
unfolding be le be_bytes word_bytes zeros unit_of units_of records records_from whole all_good well_formed_by length_of kind_of good_frame node_type good_node good_record well_formed operation_of entries negative valid row_of reports reportable operand_words present cost longest run remains next_state operands_of body answer written part_at with_part placed good_state area_status area_after nodes_status nodes_memory number_for asks nodes_outcome outcome call_of answered after_call chosen_by is_reserved
nodes_witness =
    record {
      of_scope_1 =
          record {
            bytes = bytes_by additions refl;
            fits = ltb-true 0 0x1_0000_0000_0000_0000 refl;
            formed = refl;
            scoped = refl;
            session = (
              (λ e. record { unfinished = refl; unchanged = refl; nodes = refl; of_scope = refl; carries = refl }),
              (
                (λ e. absurd (false≢true e)),
                ((λ e. record { unfinished = refl; unchanged = refl; nodes = refl; of_scope = refl; carries = refl }), tt),
              ),
            );
            refused = refl;
            well_made =
                counted {c = nodes_call 0 0} (record { unchanged = refl; nodes = refl; two_inputs = refl; one_output = refl; whole = omega arith; of_scope = refl; aligned = refl; inside = leb-true 4096 4096 refl; carries = refl })
                (passed
                (counted {c = nodes_call 0 509} (record { unchanged = refl; nodes = refl; two_inputs = refl; one_output = refl; whole = omega arith; of_scope = refl; aligned = refl; inside = leb-true 4096 4096 refl; carries = refl })
                none));
            enough = ltb-true 1020 2030 refl;
            ended = refl;
          };
      of_unit_7 =
          record {
            bytes = bytes_by functions refl;
            fits = ltb-true 7 0x1_0000_0000_0000_0000 refl;
            formed = refl;
            scoped = refl;
            session = (
              (λ e. record { unfinished = refl; unchanged = refl; nodes = refl; of_scope = refl; carries = refl }),
              (
                (λ e. absurd (false≢true e)),
                ((λ e. record { unfinished = refl; unchanged = refl; nodes = refl; of_scope = refl; carries = refl }), tt),
              ),
            );
            refused = refl;
            well_made =
                counted {c = unit_call 0 0} (record { unchanged = refl; nodes = refl; two_inputs = refl; one_output = refl; whole = omega arith; of_scope = refl; aligned = refl; inside = leb-true 4096 4096 refl; carries = refl })
                (passed
                (counted {c = unit_call 0 1018} (record { unchanged = refl; nodes = refl; two_inputs = refl; one_output = refl; whole = omega arith; of_scope = refl; aligned = refl; inside = leb-true 4096 4096 refl; carries = refl })
                none));
            enough = ltb-true 1019 2030 refl;
            ended = refl;
          };
    }

pub indices_witness : IndicesWitness
unfolding be le be_bytes word_bytes zeros records records_from whole all_good well_formed_by length_of kind_of flag_of type_of index_of code_of all_non_zero good_code inventory.good_record inventory.well_formed listing.matches listing.listed code_field entry_bytes entries_bytes fitting index-area.run index-area.answer index-area.written part_at with_part askable lendable good_number due_fits more_entries list_status reading_status is_named is_current reading-record.begins record_after indices_status indices_memory next_number number_for asks indices_outcome outcome call_of answered after_call chosen_by code_limit good_head
indices_witness =
    record {
      bytes = bytes_by sensors refl;
      formed = refl;
      may = refl;
      some = leb-true 1 2 refl;
      session = (
        (record { inventory_is = refl; edition_is = refl; reading_is = refl }, (λ e. record { unfinished = refl; indices = refl; of_flag = refl; of_type = refl; numbered = refl })),
        (
          (record { inventory_is = refl; edition_is = refl; reading_is = refl }, λ e. absurd (false≢true e)),
          ((record { inventory_is = refl; edition_is = refl; reading_is = refl }, (λ e. record { unfinished = refl; indices = refl; of_flag = refl; of_type = refl; numbered = refl })), tt),
        ),
      );
      refused = refl;
      well_made =
          counted {c = indices_call 0 1 (naming 0 0 1 0)} (record { finds = record { inventory_is = refl; edition_is = refl; reading_is = refl }; made = record { indices = refl; five_inputs = refl; two_outputs = refl; whole = omega arith; of_flag = refl; of_type = refl; numbered = refl; large = omega arith; below = omega arith; inside = omega arith } })
          (passed
          (counted {c = indices_call 8 2 (naming 1 9 2 5)} (record { finds = record { inventory_is = refl; edition_is = refl; reading_is = refl }; made = record { indices = refl; five_inputs = refl; two_outputs = refl; whole = omega arith; of_flag = refl; of_type = refl; numbered = refl; large = omega arith; below = omega arith; inside = omega arith } })
          none));
      enough = leb-true 2 2 refl;
      ended = refl;
    }

pub edition_witness : EditionWitness
unfolding be le be_bytes word_bytes zeros records records_from whole all_good well_formed_by length_of kind_of flag_of type_of index_of code_of all_non_zero good_code inventory.good_record inventory.well_formed listing.matches listing.listed code_field entry_bytes entries_bytes fitting index-area.run index-area.answer index-area.written part_at with_part askable lendable good_number due_fits more_entries list_status reading_status is_named is_current reading-record.begins record_after indices_status indices_memory next_number number_for asks indices_outcome outcome call_of answered after_call chosen_by code_limit good_head edit_of begun_after
edition_witness =
    record {
      bytes = (bytes_by few refl, (tt, (bytes_by added refl, (tt, (tt, (tt, tt))))));
      begun = (refl, (refl, refl, refl), refl);
      named = refl;
      edited = refl;
      changed = (refl, (refl, refl, refl), refl);
      cleared = refl;
      afresh = (refl, (refl, refl, refl), refl);
      ended = (refl, (refl, refl, refl), refl);
      whole = refl;
    }

pub properties_witness : PropertiesWitness
unfolding be le be_bytes word_bytes zeros until_nul is_ended records records_from whole all_good well_formed_by length_of kind_of good_frame node_type good_node
    name_of value_of property_frame good_property good_record well_formed negative valid is_of changes_from properties due_at fill weight cuts begins
    value_room stops boundaries states member property-head.is_reserved piece_bytes pieces_bytes property-area.answer property-area.written carries
    handed outcome_of answers.area_after part_at with_part placed properties_status properties_memory number_for asks properties_outcome outcome call_of
    answered after_call
properties_witness =
    record {
      bytes = bytes_by changed refl;
      formed = refl;
      known = refl;
      session = (
        (λ e. record { unfinished = refl; unchanged = refl; properties = refl; carries = refl }),
        (
          (λ e. absurd (false≢true e)),
          ((λ e. record { unfinished = refl; unchanged = refl; properties = refl; carries = refl }), tt),
        ),
      );
      refused = refl;
      well_made =
          counted {c = properties_call 0 0} (record {
            unchanged = refl;
            properties = refl;
            two_inputs = refl;
            one_output = refl;
            whole = omega arith;
            scoped = refl;
            aligned = refl;
            inside = leb-true 4096 4096 refl;
            carries = refl;
          })
          (passed
          (counted {c = properties_call 0 4080} (record {
            unchanged = refl;
            properties = refl;
            two_inputs = refl;
            one_output = refl;
            whole = omega arith;
            scoped = refl;
            aligned = refl;
            inside = leb-true 4096 4096 refl;
            carries = refl;
          })
          none));
      enough = leb-true 4077 8080 refl;
      ended = refl;
    }

-- The records that are cut in bytes come out as they are written, by one computed test.
use Rattle.words.specs.Numbers.{le}
use Rattle.words.specs.Nul.{until_nul, is_ended}
use Rattle.records.specs.Records.{length_of, kind_of, records_from, records, whole, all_good, well_formed_by}
use Rattle.records.specs.Choosing.{chosen_by}
use Rattle.records.specs.Cutting.{due, ripe, taken, rest, run, standing, fed}
use Rattle.journal.specs.Property.{name_of, value_of, property_frame, good_property}
use Rattle.journal.specs.Journal.{good_frame, node_type, good_node, good_record, well_formed, operation_of, unit_of, entries}
use Rattle.journal.specs.Scope.{rows}
use Rattle.journal.specs.Reportable.{reports}
use Rattle.tallies.specs.Tallies.{recount_of, tallies_within}
use Rattle.tallies.specs.Keeping.{fits, has_room, one_record, outcome_of, attached}
use Rattle.intake.specs.Taking.{good_front, step}
use Rattle.draugsten_tallies.specs.Cases.Cuts.{cuts_to, EachCut}

pub each_cut : EachCut
unfolding le until_nul is_ended length_of kind_of records_from records whole all_good well_formed_by chosen_by due ripe taken rest run standing fed name_of value_of property_frame good_property good_frame
    node_type good_node good_record well_formed operation_of unit_of entries rows reports recount_of tallies_within fits has_room one_record outcome_of attached good_front step cuts_to
each_cut = tt

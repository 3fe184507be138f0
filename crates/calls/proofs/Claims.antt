-- The claims that the contract of `call` cites hold.
use mathlib.Core.Path.{refl}
use native.Mathlib.Omega.{arith}
use Rattle.words.proofs.Claims.{zeros_exactly, stated_exactly}
use Rattle.journal.proofs.Claims.{journal_claims}
use Rattle.inventory.proofs.Claims.{inventory_claims}
use Rattle.dump.proofs.StructureClaims.{structure_exactly}
use Rattle.dump.proofs.Claims.{structure_cases}
use Rattle.node_area.proofs.ReaderClaims.{node_reader_exactly}
use Rattle.nodes.proofs.Claims as nodes
use Rattle.indices.proofs.ReaderClaims.{index_reader_exactly}
use Rattle.indices.proofs.Claims as indices
use Rattle.indices.proofs.Bounds.{entries_bounded}
use Rattle.indices.proofs.Longest.{longest_run}
use Rattle.property_area.proofs.ReaderClaims.{property_reader_exactly}
use Rattle.property_area.proofs.Written.{round_trip}
use Rattle.properties.proofs.ChangeClaims.{changes_exactly, fill_exactly, session_exactly}
use Rattle.calls.specs.Lent.{part_at, with_part}
use Rattle.calls.specs.Claims.Lent.{PartExactly}
use Rattle.calls.specs.Claims.NodeSession.{reported as reportedNodes}
use Rattle.calls.specs.Claims.PropertySession.{reported}
use Rattle.calls.specs.Claims.Terms.{TermsExactly}
use Rattle.calls.specs.Claims.Calls.{ReportedExactly, Foundations, CallClaims}
use Rattle.calls.proofs.Confined.{demand1}
use Rattle.calls.proofs.Exact.{demand2}
use Rattle.calls.proofs.NodeSessions.{demand3, fewest}
use Rattle.calls.proofs.IndexSessions.{whole_list}
use Rattle.calls.proofs.OneEdition.{one_edition, begins_afresh}
use Rattle.calls.proofs.PropertySessions.{whole_node}
use Rattle.calls.proofs.Fewest.{fewest_witness}
use Rattle.calls.proofs.Witnesses.{nodes_witness, indices_witness, edition_witness, properties_witness}
use Rattle.calls.proofs.Readings.{readings}
use Rattle.calls.proofs.PropertyReadings.{property_readings}
use Rattle.calls.proofs.RecordReadings.{record_readings}

part_exactly : PartExactly
unfolding part_at with_part
part_exactly = record { taken = λ m address size. refl; put = λ m part address size. refl }

reported_exactly : ReportedExactly
unfolding reportedNodes reported
reported_exactly = record { nodes_done = λ os st. (λ e. rw e, λ e. rw e); node_done = λ cs st. (λ e. rw e, λ e. rw e) }

terms_exactly : TermsExactly
terms_exactly =
    record {
      minus_words = λ n h. omega arith;
      has_status = λ x. ((λ h. h), (λ h. h));
      status_is = λ b x. refl;
      refused = λ b x. ((λ h. h), (λ h. h));
      asks_is = λ t i o b. ((λ h. h), (λ h. h));
      reading_named = λ flag type number edition. refl;
      found-is = λ args memory journal inventory edition registration reading. refl;
    }

pub foundations : Foundations
foundations =
    record {
      journal = journal_claims;
      inventory = inventory_claims;
      structure = structure_exactly;
      structures = structure_cases;
      changes = changes_exactly;
      filled = fill_exactly;
      property_sessions = session_exactly;
      nodes_written = nodes.area_claims;
      nodes_read = node_reader_exactly;
      indices_written = (indices.area_claims).1;
      longest_list = longest_run;
      entries = entries_bounded;
      indices_read = index_reader_exactly;
      properties_written = round_trip;
      properties_read = property_reader_exactly;
      zeros = zeros_exactly;
      stated = stated_exactly;
      parts = part_exactly;
      terms = terms_exactly;
    }

pub call_claims : CallClaims
call_claims =
    record {
      reported_exactly = reported_exactly;
      foundations = foundations;
      demand1 = demand1;
      demand2 = demand2;
      demand3 = demand3;
      nodes_witness = nodes_witness;
      fewest_areas = fewest;
      fewest_witness = fewest_witness;
      whole_list = whole_list;
      indices_witness = indices_witness;
      one_edition = one_edition;
      edition_witness = edition_witness;
      begins_afresh = begins_afresh;
      whole_node = whole_node;
      properties_witness = properties_witness;
      readings = readings;
      property_readings = property_readings;
      record_readings = record_readings;
    }

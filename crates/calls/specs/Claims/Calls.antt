-- All that is claimed of a call, cited by the contracts of `call` and `call_step` of crate `rtas`.
use Rattle.std.specs.Prelude.{ℕ, ◌≡◌, true, false, List, length}
use Rattle.words.specs.Numbers.{be}
use Rattle.words.specs.Claims.Words.{ZerosExactly, StatedExactly}
use Rattle.journal.specs.Claims.Journal.{JournalClaims}
use Rattle.inventory.specs.Claims.Inventory.{InventoryClaims}
use Rattle.dump.specs.Claims.Structure.{StructureExactly}
use Rattle.dump.specs.Claims.Dump.{StructureCases}
use Rattle.node_area.specs.Claims.Reader.{NodeReaderExactly}
use Rattle.nodes.specs.Claims.Nodes as nodes
use Rattle.indices.specs.Claims.Reader.{IndexReaderExactly}
use Rattle.indices.specs.Claims.Indices as indices
use Rattle.indices.specs.Claims.Bounds.{EntriesBounded}
use Rattle.indices.specs.Claims.Longest.{LongestRun}
use Rattle.property_area.specs.Claims.Reader.{PropertyReaderExactly}
use Rattle.property_area.specs.Claims.PropertyArea.{RoundTrip}
use Rattle.properties.specs.Claims.Changes.{ChangesExactly, FillExactly, SessionExactly}
use Rattle.journal.specs.declared.operation.Operation.{Operation}
use Rattle.properties.specs.Changes.{Change, properties, up_to}
use Rattle.calls.specs.Claims.Lent.{PartExactly}
use Rattle.calls.specs.Claims.Session.{Standing}
use Rattle.calls.specs.Claims.NodeSession.{reported as reportedNodes}
use Rattle.calls.specs.Claims.PropertySession.{reported}
use Rattle.calls.specs.Claims.Terms.{TermsExactly}
use Rattle.calls.specs.Claims.Demands.{Demand1, Demand2, Demand3}
use Rattle.calls.specs.Claims.Fewest.{FewestAreas, FewestWitness}
use Rattle.calls.specs.Claims.WholeList.{WholeList}
use Rattle.calls.specs.Claims.OneEdition.{OneEdition, BeginsAfresh}
use Rattle.calls.specs.Claims.WholeNode.{WholeNode}
use Rattle.calls.specs.Cases.Witnesses.{NodesWitness, IndicesWitness, EditionWitness, PropertiesWitness}
use Rattle.calls.specs.Cases.Readings.{Readings}
use Rattle.calls.specs.Cases.Properties.{PropertyReadings}
use Rattle.calls.specs.Cases.ReadingRecord.{RecordReadings}

-- what the claims about calls rest on: records and lists, areas and their readers, structures, numbers
pub record Foundations : Type 0 where
  pub journal : JournalClaims
  pub inventory : InventoryClaims
  pub structure : StructureExactly
  pub structures : StructureCases
  pub changes : ChangesExactly
  pub filled : FillExactly
  pub property_sessions : SessionExactly
  pub nodes_written : nodes.AreaClaims
  pub nodes_read : NodeReaderExactly
  pub indices_written : indices.AreaClaims
  pub longest_list : LongestRun
  pub entries : EntriesBounded
  pub indices_read : IndexReaderExactly
  pub properties_written : RoundTrip
  pub properties_read : PropertyReaderExactly
  pub zeros : ZerosExactly
  pub stated : StatedExactly
  pub parts : PartExactly
  pub terms : TermsExactly

-- how much of a list a session has reported, by its end or by the state that it carries
pub record ReportedExactly : Type 0 where
  pub nodes_done : (os : List Operation) (st : Standing (List ℕ))
      → (st.done ≡ true → reportedNodes os st ≡ length os) × (st.done ≡ false → reportedNodes os st ≡ be 4 st.carried 0)
  pub node_done : (cs : List Change) (st : Standing (List ℕ))
      → (st.done ≡ true → reported cs st ≡ properties cs) × (st.done ≡ false → reported cs st ≡ up_to (be 4 st.carried 4) cs)

pub record CallClaims : Type 0 where
  pub reported_exactly : ReportedExactly
  pub foundations : Foundations
  pub demand1 : Demand1
  pub demand2 : Demand2
  pub demand3 : Demand3
  pub nodes_witness : NodesWitness
  pub fewest_areas : FewestAreas
  pub fewest_witness : FewestWitness
  pub whole_list : WholeList
  pub indices_witness : IndicesWitness
  pub one_edition : OneEdition
  pub edition_witness : EditionWitness
  pub begins_afresh : BeginsAfresh
  pub whole_node : WholeNode
  pub properties_witness : PropertiesWitness
  pub readings : Readings
  pub property_readings : PropertyReadings
  pub record_readings : RecordReadings

-- What is promised of each function of libdraugsten.a. Each function's contract cites one promise, which the header names; a promise is
-- made of the claims about the function and of what they rest on.
use Rattle.std.specs.Prelude.{ℕ, List}
use Rattle.words.specs.Claims.Words.{NumbersExactly, NulExactly, ZerosExactly}
use Rattle.node_area.specs.Claims.Reader.{NodeReaderExactly}
use Rattle.node_area.specs.Cases.Reading as node-cases
use Rattle.nodes.specs.Claims.Nodes as nodes
use Rattle.indices.specs.Claims.Reader.{IndexReaderExactly}
use Rattle.indices.specs.Claims.Indices as indices
use Rattle.property_area.specs.Claims.Reader.{PropertyReaderExactly}
use Rattle.property_area.specs.Cases.Reading as property-cases
use Rattle.property_area.specs.Claims.PropertyArea.{RoundTrip}
use Rattle.calls.specs.Claims.Calls.{CallClaims}
use Rattle.crossing.specs.Claims.Registration.{Faithful, RegistrationExactly}
use Rattle.crossing.specs.Claims.Record.{ReadingFaithful}
use Rattle.readers.specs.Claims.Readers.{NodesTold, IndicesTold, PropertiesTold}
use Rattle.draugsten.specs.Claims.Registration.{CallCrosses, ThirteenExactly, RegistrationCrosses, HandedOn, StartTaken}
use Rattle.draugsten.specs.Claims.Crossing.{RecordCrosses}
use Rattle.draugsten.specs.Claims.Record.{EditTold, ReadingCrosses}
use Rattle.draugsten.specs.Claims.Terms.{TermsExactly}

-- draugsten_read_nodes
pub record ReadNodesPromise : Type 0 where
  pub reader : NodeReaderExactly
  pub told : (scope : ℕ) (area out : List ℕ) → NodesTold scope area out
  pub numbers : NumbersExactly
  pub zeros : ZerosExactly
  pub written : nodes.AreaClaims
  pub cases : node-cases.ReadingCases

-- draugsten_read_indices
pub record ReadIndicesPromise : Type 0 where
  pub reader : IndexReaderExactly
  pub told : (area out : List ℕ) → IndicesTold area out
  pub numbers : NumbersExactly
  pub written : indices.AreaClaims
  pub cases : indices.ReadingCases

-- draugsten_read_properties
pub record ReadPropertiesPromise : Type 0 where
  pub reader : PropertyReaderExactly
  pub told : (area out : List ℕ) → PropertiesTold area out
  pub numbers : NumbersExactly
  pub names : NulExactly
  pub written : RoundTrip
  pub cases : property-cases.ReadingCases

-- draugsten_call
pub record CallPromise : Type 0 where
  -- demands 1 to 3 of every call and every session, with their witnesses, the readings of document 01 and what they rest on
  pub demands : CallClaims
  -- at the C boundary
  pub crosses : CallCrosses
  pub thirteen : ThirteenExactly
  pub handed_on : HandedOn
  pub registration : Faithful
  pub registration_numbers : RegistrationCrosses
  pub registration_exactly : RegistrationExactly
  pub reading : ReadingFaithful
  pub reading_numbers : ReadingCrosses
  pub readings : RecordCrosses
  pub terms : TermsExactly
  -- the readers by whose rules an area is read
  pub nodes_read : ReadNodesPromise
  pub indices_read : ReadIndicesPromise
  pub properties_read : ReadPropertiesPromise

-- draugsten_no_registration
pub record NoRegistrationPromise : Type 0 where
  pub taken : StartTaken
  pub numbers : RegistrationCrosses
  pub exactly : RegistrationExactly

-- draugsten_no_reading
pub record NoReadingPromise : Type 0 where
  pub faithful : ReadingFaithful
  pub numbers : ReadingCrosses
  pub terms : TermsExactly

-- draugsten_edit
pub record EditPromise : Type 0 where
  pub told : EditTold

-- Sessions of which the claims speak, so that none of the claims is empty; cited by the contract of `call`. Each session of one kind has three calls: the
-- first is well made and answered, the second is refused, the last is well made and says done.
use Rattle.std.specs.Prelude.{ℕ, ◌*◌, ◌≤◌, ◌<◌, ◌≡◌, true, false, List, [], ◌∷◌, ◌++◌, length, take, replicate}
use Rattle.words.specs.Numbers.{Bytes, word_bytes}
use Rattle.dump.specs.Registration.{no_registration}
use Rattle.dump.specs.Claims.Dump.{times}
use Rattle.journal.specs.Journal.{well_formed}
use Rattle.journal.specs.Scope.{valid, selection_of}
use Rattle.journal.specs.Reportable.{reportable, operand_words}
use Rattle.journal.specs.Claims.Journal.{long, unit, property}
use Rattle.properties.specs.Changes.{changes, is_due, properties as told}
use Rattle.properties.specs.Filling.{weight}
use Rattle.inventory.specs.Inventory as inventory
use Rattle.inventory.specs.Listing.{listed}
use Rattle.calls.specs.declared.reading_record.ReadingRecord.{ReadingRecord}
use Rattle.calls.specs.GetIndices.{askable}
use Rattle.calls.specs.Buffer.{Found, found}
use Rattle.calls.specs.Claims.Terms.{minus, naming}
use Rattle.calls.specs.Claims.Session.{is_answered, Among}
use Rattle.calls.specs.Claims.NodeSession as nodes
use Rattle.calls.specs.Claims.IndexSession as indices
use Rattle.calls.specs.Claims.Events.{Call, Event, calls, edits, AllBytes, Standing}
use Rattle.calls.specs.Claims.Events as events
use Rattle.calls.specs.Claims.OneEdition.{Gives, list_of}
use Rattle.calls.specs.Claims.PropertySession as properties
use Rattle.calls.specs.Cases.Readings.{at_rest, inventory_of}

-- ---- demand 3: 510 additions, of which an area holds 509

abbrev pub additions : List ℕ
additions = times 510 (long 12 3 10)

-- a call of scope 1 with a work area at an address, over 4,096 bytes of memory that begin with a state
abbrev pub nodes_call : ℕ → ℕ → Found
nodes_call address state = at_rest (word_bytes (1 ∷ 2 ∷ 1 ∷ address ∷ 1 ∷ 99 ∷ [])) (word_bytes (state ∷ 0 ∷ 0 ∷ 0 ∷ [])
    ++ replicate 4080 9) additions [] no_registration

-- the area of the second is past memory's end
abbrev pub nodes_calls : List Found
nodes_calls = nodes_call 0 0 ∷ nodes_call 4096 0 ∷ nodes_call 0 509 ∷ []

-- in scope 3: 1,019 updates of the unit 7 with one of another unit before them; an area holds 1,018
abbrev pub another : List ℕ
another = 16 ∷ 0 ∷ 4 ∷ 0 ∷ 15 ∷ 0 ∷ 7 ∷ 0 ∷ 0 ∷ 0 ∷ 0 ∷ 0 ∷ 0 ∷ 1 ∷ 42 ∷ 0 ∷ 0 ∷ 0 ∷ []

abbrev pub functions : List ℕ
functions = another ++ times 1019 (unit 16 4 16)

-- a call of scope 3 for the unit 7
abbrev pub unit_call : ℕ → ℕ → Found
unit_call address state = at_rest (word_bytes (1 ∷ 2 ∷ 1 ∷ address ∷ 3 ∷ 99 ∷ [])) (word_bytes (state ∷ 0 ∷ 7 ∷ 0 ∷ [])
    ++ replicate 4080 9) functions [] no_registration

abbrev pub unit_calls : List Found
unit_calls = unit_call 0 0 ∷ unit_call 4096 0 ∷ unit_call 0 1018 ∷ []

-- a session over a journal, of a scope and a unit, of which this call is refused and two are well made
pub record NodesSession (j : List ℕ) (scope unit : ℕ) (between : Found) (cs : List Found) : Type 0 where
  pub bytes : Bytes j
  pub fits : unit < 0x1_0000_0000_0000_0000
  pub formed : well_formed j ≡ true
  pub scoped : valid scope ≡ true
  pub session : nodes.Session j scope unit cs
  pub refused : is_answered between ≡ false
  pub well_made : Among nodes.after (nodes.WellMade j scope) (nodes.start scope unit) cs 2
  pub enough : operand_words (reportable (selection_of scope unit) j) < 1015 * 2
  pub ended : (nodes.standing scope unit cs).done ≡ true

pub record NodesWitness : Type 0 where
  pub of_scope_1 : NodesSession additions 1 0 (nodes_call 4096 0) nodes_calls
  pub of_unit_7 : NodesSession functions 3 7 (unit_call 4096 0) unit_calls

-- ---- the whole list: two sensors of type 9 with codes of 1,023 bytes, of which an area of 1,036 bytes holds one

abbrev pub sensors : List ℕ
sensors = inventory_of (1023 ∷ 1023 ∷ [])

-- a call for them with such an area at an address, over 1,044 bytes of memory, a Starting Number and the record that the call before it left
abbrev pub indices_call : ℕ → ℕ → ReadingRecord → Found
indices_call address number r = found (word_bytes (2 ∷ 5 ∷ 2 ∷ 1 ∷ 9 ∷ address ∷ 1036 ∷ number ∷ 99 ∷ 99
    ∷ [])) (replicate 1044 7) [] sensors (record { 0 = 5 }) no_registration r

-- the area of the second ends past memory's end
abbrev pub indices_calls : List Found
indices_calls = indices_call 0 1 (naming 0 0 1 0) ∷ indices_call 9 2 (naming 1 9 2 5) ∷ indices_call 8 2 (naming 1 9 2 5) ∷ []

pub record IndicesWitness : Type 0 where
  pub bytes : Bytes sensors
  pub formed : inventory.well_formed sensors ≡ true
  pub may : askable 1 9 ≡ true
  pub some : 1 ≤ length (listed 1 9 sensors)
  pub session : indices.Session sensors 5 1 9 indices_calls
  pub refused : is_answered (indices_call 9 2 (naming 1 9 2 5)) ≡ false
  pub well_made : Among indices.after (indices.WellMade sensors 5 1 9) indices.start indices_calls 2
  pub enough : length (listed 1 9 sensors) ≤ 2
  pub ended : (indices.standing indices_calls).session.done ≡ true

-- ---- one edition: two sensors of type 9, and a third that is added while they are read

abbrev pub few : List ℕ
few = inventory_of (3 ∷ 4 ∷ [])

abbrev pub added : List ℕ
added = inventory_of (3 ∷ 4 ∷ 3 ∷ [])

-- a call for them with an area of 16 bytes, which holds one entry, or of 100, and a Starting Number, over 100 bytes of memory
abbrev pub sensors_call : ℕ → ℕ → Call
sensors_call size number = record {
  args = word_bytes (2 ∷ 5 ∷ 2 ∷ 1 ∷ 9 ∷ 0 ∷ size ∷ number ∷ 99 ∷ 99 ∷ []);
  memory = replicate 100 7;
  journal = [];
  registration = no_registration;
}

-- a reading is begun, the sensor is added, the reading is given -4 and begun afresh, and the last call says done
abbrev pub edited_reading : List Event
edited_reading = calls (sensors_call 16 1) ∷ edits added ∷ calls (sensors_call 100 2) ∷ calls (sensors_call 16 1) ∷ calls (sensors_call 100 2) ∷ []

abbrev pub standing_after : ℕ → Standing
standing_after n = events.standing few (record { 0 = 6 }) (take n edited_reading)

abbrev pub finds : ℕ → Call → Found
finds n c = events.found_by (standing_after n) c

pub record EditionWitness : Type 0 where
  pub bytes : AllBytes few (record { 0 = 6 }) edited_reading
  pub begun : Gives 1 (finds 0 (sensors_call 16 1))
  pub named : (standing_after 2).reading ≡ naming 1 9 2 6
  pub edited : (standing_after 2).edition ≡ record { 0 = 7 }
  pub changed : Gives (minus 4) (finds 2 (sensors_call 100 2))
  pub cleared : (standing_after 3).reading ≡ naming 0 0 1 0
  pub afresh : Gives 1 (finds 3 (sensors_call 16 1))
  pub ended : Gives 0 (finds 4 (sensors_call 100 2))
  pub whole : length (list_of (standing_after 5).begun) ≡ 3

-- ---- the whole node: a property with a name of one letter and a value of 4,071 bytes, of which an area holds 4,070

abbrev pub changed : List ℕ
changed = property 4079 5 1 (0 ∷ replicate 4071 7)

-- a call of scope 1 for the node 42 with a work area at an address, over 4,096 bytes of memory that begin with phandle and state
abbrev pub properties_call : ℕ → ℕ → Found
properties_call address state = at_rest (word_bytes (4 ∷ 2 ∷ 1 ∷ address ∷ 1 ∷ 99 ∷ [])) (word_bytes (42 ∷ state ∷ 0 ∷ 0 ∷ [])
    ++ replicate 4080 9) changed [] no_registration

-- the area of the second is past memory's end
abbrev pub properties_calls : List Found
properties_calls = properties_call 0 0 ∷ properties_call 4096 0 ∷ properties_call 0 4080 ∷ []

pub record PropertiesWitness : Type 0 where
  pub bytes : Bytes changed
  pub formed : well_formed changed ≡ true
  pub known : is_due (changes 42 changed) ≡ true
  pub session : properties.Session changed 42 properties_calls
  pub refused : is_answered (properties_call 4096 0) ≡ false
  pub well_made : Among nodes.after (properties.WellMade changed) (properties.start 42) properties_calls 2
  pub enough : weight (told (changes 42 changed)) ≤ 4040 * 2
  pub ended : (properties.standing 42 properties_calls).done ≡ true

-- Readings as they cross the C boundary: a refusal with its offset, or entries in a buffer that the caller lends.
use Rattle.std.specs.Prelude.{ℕ, zero, suc, ◌+◌, ◌/◌, min, List, [], ◌∷◌, ◌++◌, length, take}
use Rattle.std.proofs.lemmas.List.Edits.{sets}
use Rattle.words.specs.Numbers.{be32}
use Rattle.words.specs.Nul.{until_nul}
use Rattle.words.specs.Reading.{Reading, read, refused}
use Rattle.journal.specs.declared.operation.Operation.{Operation}
use Rattle.journal.specs.declared.operation.Operation.TheVariants.{Delete, Update, Add}
use Rattle.node_area.specs.declared.reading.Refusal as nodes-refusal
use Rattle.node_area.specs.Head.{state_in}
use Rattle.node_area.specs.Reading as nodes
use Rattle.inventory.specs.Listing.{Entry}
use Rattle.indices.specs.declared.reading.Refusal as indices-refusal
use Rattle.indices.specs.Reading as indices
use Rattle.property_area.specs.declared.reading.Refusal as properties-refusal
use Rattle.property_area.specs.declared.reading.Located.{Located}
use Rattle.property_area.specs.Head as property-head
use Rattle.property_area.specs.Piece.{Piece}
use Rattle.property_area.specs.Reading as properties
use Rattle.readers.specs.declared.reading_nodes.NodeReading.{NodeReading}
use Rattle.readers.specs.declared.reading_indices.IndexReading.{IndexReading}
use Rattle.readers.specs.declared.reading_properties.PropertyReading.{PropertyReading}

-- ---- node areas

-- an operation as three words: its opcode, its first operand, its second or 0
abbrev pub operation_words : Operation → List ℕ
operation_words (Delete p) = 1 ∷ p ∷ 0 ∷ []
operation_words (Update p) = 2 ∷ p ∷ 0 ∷ []
operation_words (Add p d) = 3 ∷ p ∷ d ∷ []

unfoldable pub operations_words : List Operation → List ℕ
operations_words [] = []
operations_words (o ∷ os) = operation_words o ++ operations_words os

-- the refusal's number and offset, or the state and the number of operations
abbrev pub node_reading : List ℕ → Reading Operation nodes-refusal.Refusal → NodeReading
node_reading area (read os) = record { refusal = 0; state = state_in area; offset = 0; entries = length os }
node_reading area (refused r at) = record { refusal = nodes.refusal_number r; state = 0; offset = at; entries = 0 }

-- the buffer with as many whole operations as it has room for; a refusal leaves it as it was
abbrev pub nodes_out : List ℕ → Reading Operation nodes-refusal.Refusal → List ℕ
nodes_out out (read os) = sets out 0 (operations_words (take (length out / 3) os))
nodes_out out (refused r at) = out

-- ---- index areas

-- a set at an offset as three words: its index, where its code stands, and the code's length
abbrev pub set_words : List ℕ → ℕ → List ℕ
set_words area at = be32 area at ∷ (at + 8) ∷ length (until_nul (indices.field_at area at)) ∷ []

unfoldable pub sets_words : ℕ → List ℕ → ℕ → List ℕ
sets_words zero area at = []
sets_words (suc n) area at = set_words area at ++ sets_words n area (at + (8 + indices.length_at area at))

abbrev pub index_reading : Reading Entry indices-refusal.Refusal → IndexReading
index_reading (read es) = record { refusal = 0; offset = 0; entries = length es }
index_reading (refused r at) = record { refusal = indices.refusal_number r; offset = at; entries = 0 }

abbrev pub indices_out : List ℕ → List ℕ → Reading Entry indices-refusal.Refusal → List ℕ
indices_out out area (read es) = sets out 0 (sets_words (min (length out / 3) (length es)) area 4)
indices_out out area (refused r at) = out

-- ---- property areas

-- a property as five words: where its name stands and its length, its descriptor, where its value stands and its length
abbrev pub property_words : Located → List ℕ
property_words l = l.name ∷ l.name_length ∷ l.descriptor ∷ l.value ∷ l.value_length ∷ []

unfoldable pub properties_words : ℕ → List ℕ → ℕ → List ℕ
properties_words zero area at = []
properties_words (suc n) area at = let l = properties.located_at area at in property_words l ++ properties_words n area (properties.end_of l)

-- the refusal's number and offset, or the phandle, the state and the number of properties
abbrev pub property_reading : List ℕ → Reading Piece properties-refusal.Refusal → PropertyReading
property_reading area (read ps) = record {
  refusal = 0;
  phandle = property-head.phandle_in area;
  state = property-head.state_in area;
  offset = 0;
  entries = length ps;
}
property_reading area (refused r at) = record { refusal = properties.refusal_number r; phandle = 0; state = 0; offset = at; entries = 0 }

-- the buffer with as many whole properties as it has room for; a refusal leaves it as it was
abbrev pub properties_out : List ℕ → List ℕ → Reading Piece properties-refusal.Refusal → List ℕ
properties_out out area (read ps) = sets out 0 (properties_words (min (length out / 5) (length ps)) area property-head.first_at)
properties_out out area (refused r at) = out

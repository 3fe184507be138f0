-- What the readers tell at the C boundary, exactly: number, offset and count, and every word of the buffer, which may be short (document 01, "Readers").
use Rattle.std.specs.Prelude.{ℕ, ◌+◌, ◌*◌, ◌≤◌, ◌≡◌, List, [], ◌∷◌, ◌++◌, length, take, drop, get_or}
use Rattle.words.specs.Numbers.{Bytes, be}
use Rattle.words.specs.Reading.{read, Refuses}
use Rattle.journal.specs.declared.operation.Operation.{Operation}
use Rattle.journal.specs.declared.operation.Operation.TheVariants.{Delete, Update, Add}
use Rattle.node_area.specs.Reading as nodes
use Rattle.inventory.specs.Listing.{Entry}
use Rattle.indices.specs.Claims.Longest.{taken}
use Rattle.indices.specs.Reading as indices
use Rattle.property_area.specs.Piece.{Piece, descriptor_of, pieces_bytes}
use Rattle.property_area.specs.Reading as properties
use Rattle.readers.specs.Readings.{node_reading, nodes_out, index_reading, indices_out, property_reading, properties_out}

-- A buffer after a reading of entries that take w words each: the words of each entry that fits whole are told, given the entries before it, and every
-- other word is as it was.
pub record Stored {E : Type 0} (w : ℕ) (Tells : List E → List ℕ → E → Type 0) (es : List E) (out after : List ℕ) : Type 0 where
  pub size : length after ≡ length out
  pub each : (before : List E) (e : E) (later : List E) → es ≡ before ++ (e ∷ later) → w * length before + w ≤ length out
      → Tells before (drop (w * length before) after) e
  pub others : (k : ℕ) → w * length es ≤ k → get_or after k 0 ≡ get_or out k 0
  pub rest : (n k : ℕ) → length out ≡ w * n + k → k + 1 ≤ w → drop (w * n) after ≡ drop (w * n) out

-- ---- node areas: an operation is three words, its opcode, its first operand, its second or 0

abbrev pub OperationTold : List Operation → List ℕ → Operation → Type 0
OperationTold before ws (Delete p) = take 3 ws ≡ 1 ∷ p ∷ 0 ∷ []
OperationTold before ws (Update p) = take 3 ws ≡ 2 ∷ p ∷ 0 ∷ []
OperationTold before ws (Add p d) = take 3 ws ≡ 3 ∷ p ∷ d ∷ []

pub record NodesTold (scope : ℕ) (area out : List ℕ) : Type 0 where
  pub refused : (number at : ℕ) → Refuses nodes.refusal_number (nodes.reading scope area) number at
      → (node_reading area (nodes.reading scope area) ≡ record { refusal = number; state = 0; offset = at; entries = 0 })
      × (nodes_out out (nodes.reading scope area) ≡ out)
  pub entries : (os : List Operation) → nodes.reading scope area ≡ read os
      → (node_reading area (nodes.reading scope area) ≡ record { refusal = 0; state = be 4 area 0; offset = 0; entries = length os })
      × Stored 3 OperationTold os out (nodes_out out (nodes.reading scope area))

-- ---- index areas: an entry is three words, its index, where its code stands, and the code's length

-- the count's four bytes and the entries before stand in front, then the index and the length in eight bytes
abbrev pub EntryTold : List ℕ → List Entry → List ℕ → Entry → Type 0
EntryTold area before ws e =
    let at = 4 + taken before + 8 in
    (take 3 ws ≡ e.index ∷ at ∷ length e.code ∷ []) × (take (length e.code) (drop at area) ≡ e.code)

pub record IndicesTold (area out : List ℕ) : Type 0 where
  pub refused : (number at : ℕ) → Refuses indices.refusal_number (indices.reading area) number at
      → (index_reading (indices.reading area) ≡ record { refusal = number; offset = at; entries = 0 }) × (indices_out out area (indices.reading area) ≡ out)
  pub entries : (es : List Entry) → indices.reading area ≡ read es
      → (index_reading (indices.reading area) ≡ record { refusal = 0; offset = 0; entries = length es })
      × Stored 3 (EntryTold area) es out (indices_out out area (indices.reading area))

-- ---- property areas: a property is five words, where its name stands and its length, its descriptor, where its value stands and its length

-- the head's twenty bytes and the properties before stand in front, and between name and value the NUL and the descriptor in five bytes
abbrev pub PieceTold : List ℕ → List Piece → List ℕ → Piece → Type 0
PieceTold area before ws p =
    let name = p.part.name in
    let value = p.part.value in
    let at = 20 + length (pieces_bytes before) in
    let from = at + length name + 5 in
    (take 5 ws ≡ at ∷ length name ∷ descriptor_of p ∷ from ∷ length value ∷ [])
    × (take (length name) (drop at area) ≡ name)
    × (take (length value) (drop from area) ≡ value)

-- in an area of bytes a descriptor is a 32-bit word
pub record PropertiesTold (area out : List ℕ) : Type 0 where
  pub refused : (number at : ℕ) → Refuses properties.refusal_number (properties.reading area) number at
      → (property_reading area (properties.reading area) ≡ record { refusal = number; phandle = 0; state = 0; offset = at; entries = 0 })
      × (properties_out out area (properties.reading area) ≡ out)
  pub entries : Bytes area → (ps : List Piece) → properties.reading area ≡ read ps
      → (property_reading area (properties.reading area) ≡ record { refusal = 0; phandle = be 4 area 0; state = be 4 area 4; offset = 0; entries = length ps })
      × Stored 5 (PieceTold area) ps out (properties_out out area (properties.reading area))

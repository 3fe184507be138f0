-- What is claimed of the definitions of `Readings`.
use Rattle.std.specs.Prelude.{ℕ, ◌≡◌, List, [], ◌∷◌, length, take, drop}
use Rattle.words.specs.Reading.{read}
use Rattle.inventory.specs.Listing.{Entry}
use Rattle.indices.specs.Reading as indices
use Rattle.property_area.specs.declared.reading.Located.{Located}
use Rattle.property_area.specs.Head as property-head
use Rattle.property_area.specs.Piece.{Piece}
use Rattle.property_area.specs.Reading as properties
use Rattle.readers.specs.Readings.{sets_words, properties_words}

-- the entries that words tell of an area: an index, and a part of the area
unfoldable pub entries_told : List ℕ → List ℕ → List Entry
entries_told area [] = []
entries_told area (i ∷ []) = []
entries_told area (i ∷ s ∷ []) = []
entries_told area (i ∷ s ∷ n ∷ ws) = record { index = i; code = take n (drop s area) } ∷ entries_told area ws

-- The words of an area's sets tell the entries of its reading, in order.
abbrev pub WordsTell : Type 0
WordsTell = (area : List ℕ) (es : List Entry) → indices.reading area ≡ read es → entries_told area (sets_words (length es) area 4) ≡ es

-- the pieces that words tell of an area: name and value are parts of it, and the descriptor tells whether the property is deleted and whether more follows
unfoldable pub pieces_told : List ℕ → List ℕ → List Piece
pieces_told area [] = []
pieces_told area (s ∷ []) = []
pieces_told area (s ∷ n ∷ []) = []
pieces_told area (s ∷ n ∷ d ∷ []) = []
pieces_told area (s ∷ n ∷ d ∷ v ∷ []) = []
pieces_told area (s ∷ n ∷ d ∷ v ∷ m ∷ ws) =
    let l : Located = record { name = s; name_length = n; descriptor = d; value = v; value_length = m } in
    properties.piece_in area l ∷ pieces_told area ws

-- The words of an area's properties tell the pieces of its reading, in order.
abbrev pub PropertyWordsTell : Type 0
PropertyWordsTell = (area : List ℕ) (ps : List Piece) → properties.reading area ≡ read ps
    → pieces_told area (properties_words (length ps) area property-head.first_at) ≡ ps

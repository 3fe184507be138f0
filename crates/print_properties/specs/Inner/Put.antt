-- Terms of the contracts of the program's private functions; the promise of `print_area` does not cite them.
use Rattle.std.specs.Prelude.{ℕ, ◌+◌, ◌≤◌, List, ltb, eqb}
use Rattle.property_area.specs.declared.reading.Located.{Located}
use Rattle.property_area.specs.Piece.{Piece, deletion}
use Rattle.property_area.specs.Reading.{end_of}

-- a property stands inside so many bytes, its name before its value
abbrev pub Inside : Located → ℕ → Type 0
Inside l size = (l.name + l.name_length ≤ l.value) × (end_of l ≤ size)

-- the piece of a descriptor, a name and a value
abbrev pub piece_of : ℕ → List ℕ → List ℕ → Piece
piece_of d name value = record { part = record { name = name; deleted = eqb d deletion; value = value }; more = ltb deletion d }

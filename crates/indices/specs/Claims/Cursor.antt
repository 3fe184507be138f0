-- What is claimed of the definitions of `Cursor`.
use Rattle.std.specs.Prelude.{◌≡◌, List, [], ◌∷◌, ℕ, Option, None, Some}
use Rattle.inventory.specs.Listing.{Entry}
use Rattle.indices.specs.declared.reading.Cursor.{Cursor}
use Rattle.indices.specs.declared.reading.Set.{Set}
use Rattle.words.specs.Reading.{read}
use Rattle.indices.specs.Reading.{reading}
use Rattle.indices.specs.Cursor.{remaining, entry_in, next_of, start_of}

-- a step gives the first of a list, with a cursor that has the rest before it, or the end where the list is empty
abbrev pub Gives : List ℕ → List Entry → Option (Set × Cursor) → Type 0
Gives area es None = es ≡ []
Gives area es (Some (s, c)) = es ≡ entry_in area s ∷ remaining area c

abbrev pub StepsGive : Type 0
StepsGive = (area : List ℕ) (c : Cursor) → Gives area (remaining area c) (next_of area c)

-- From the start a cursor has the entries of the area's reading before it, in order.
abbrev pub EntriesInOrder : Type 0
EntriesInOrder = (area : List ℕ) (es : List Entry) → reading area ≡ read es → remaining area (start_of area) ≡ es

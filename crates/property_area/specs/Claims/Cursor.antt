-- Reading the properties of a work area one at a time.
use Rattle.std.specs.Prelude.{◌≡◌, cond, List, [], ◌∷◌, ℕ, zero, suc, ◌-◌, ltb, eqb, length, Result, Ok, Err, Option, Some, None}
use Rattle.words.specs.Reading.{read}
use Rattle.property_area.specs.declared.reading.Cursor.{Cursor}
use Rattle.property_area.specs.declared.reading.Located.{Located}
use Rattle.property_area.specs.declared.reading.Refusal.{Refusal}
use Rattle.property_area.specs.Head.{count_in, first_at}
use Rattle.property_area.specs.Piece.{Piece}
use Rattle.property_area.specs.Reading.{located_at, end_of, judged_at, piece_in, reading}

-- a list where a property is fine, else none
abbrev pub fine_or : Result Located Refusal → List Piece → List Piece
fine_or (Ok l) more = more
fine_or (Err r) more = []

-- n properties from a byte offset on, as far as they are fine
unfoldable pub pieces_from : ℕ → List ℕ → ℕ → List Piece
pieces_from zero area at = []
pieces_from (suc n) area at =
    let l = located_at area at in
    let more = piece_in area l ∷ pieces_from n area (end_of l) in
    fine_or (judged_at area at) more

-- those that a cursor has before it
unfoldable pub remaining : List ℕ → Cursor → List Piece
remaining area c = pieces_from c.left area c.at

-- a step gives the first of a list, with a cursor that has the rest before it, or none where the list is empty
abbrev pub Gives : List ℕ → List Piece → Option (Located × Cursor) → Type 0
Gives area ps None = ps ≡ []
Gives area ps (Some (l, c)) = ps ≡ piece_in area l ∷ remaining area c

-- The step of a cursor: its next property and the cursor behind it, or none where none is left or the next one is not fine.
abbrev pub step_by : Result Located Refusal → ℕ → Option (Located × Cursor)
step_by (Ok l) left = Some (l, record { at = end_of l; left = left })
step_by (Err r) left = None

unfoldable pub next_of : List ℕ → Cursor → Option (Located × Cursor)
next_of area c = cond (eqb c.left 0) None (step_by (judged_at area c.at) (c.left - 1))

abbrev pub StepsGive : Type 0
StepsGive = (area : List ℕ) (c : Cursor) → Gives area (remaining area c) (next_of area c)

-- before the first property; an area of under 20 bytes has none
abbrev pub start_of : List ℕ → Cursor
start_of area = record { at = first_at; left = cond (ltb (length area) first_at) 0 (count_in area) }

-- From the start a cursor has the properties of the area's reading before it, in order.
abbrev pub PropertiesInOrder : Type 0
PropertiesInOrder = (area : List ℕ) (ps : List Piece) → reading area ≡ read ps → remaining area (start_of area) ≡ ps

-- Lookups and views as they cross the C boundary (document 02, M-112).
use Rattle.std.specs.Prelude.{ℕ, cond, List, [], eqb, take, drop}
use Rattle.indices.specs.declared.reading.Cursor.{Cursor}
use Rattle.indices.specs.Reading.{refusal_number}
use Rattle.locations.specs.declared.lookups.Location.{Location}
use Rattle.locations.specs.declared.lookups.Location.TheVariants as location
use Rattle.locations.specs.declared.views.Given.{Given}
use Rattle.locations.specs.declared.views.Given.TheVariants as given
use Rattle.locations.specs.declared.views.Advance.{Advance}
use Rattle.locations.specs.Locations.{location_of}
use Rattle.draugsten_locations.specs.declared.looking.FlatLocation.{FlatLocation}
use Rattle.draugsten_locations.specs.declared.viewing.FlatCursor.{FlatCursor}
use Rattle.draugsten_locations.specs.declared.viewing.FlatStep.{FlatStep}

-- ---- a lookup: 0 found, 34 not found, 30 to 33 for the area

abbrev pub location_as : ℕ → ℕ → ℕ → ℕ → FlatLocation
location_as number buffer offset length = record { number = number; buffer = buffer; offset = offset; length = length }

abbrev pub flat_location : Location → FlatLocation
flat_location (location.Refused r at) = location_as (refusal_number r) 0 at 0
flat_location location.NotFound = location_as 34 0 0 0
flat_location (location.InArea p) = location_as 0 1 p.start p.length
flat_location (location.InFixed p) = location_as 0 2 p.start p.length

-- ---- a view: 0 an entry, 35 the end, 30 to 33 for the area

abbrev pub flat_cursor : Cursor → FlatCursor
flat_cursor c = record { at = c.at; left = c.left }

abbrev pub cursor_from : FlatCursor → Cursor
cursor_from f = record { at = f.at; left = f.left }

abbrev pub step_as : ℕ → ℕ → ℕ → ℕ → FlatCursor → FlatStep
step_as number index offset length cursor = record { number = number; index = index; offset = offset; length = length; cursor = cursor }

abbrev pub given_as : Given → FlatCursor → FlatStep
given_as (given.Entry index p) cursor = step_as 0 index p.start p.length cursor
given_as given.End cursor = step_as 35 0 0 0 cursor
given_as (given.Refused r at) cursor = step_as (refusal_number r) 0 at 0 cursor

abbrev pub flat_step : Advance → FlatStep
flat_step a = given_as a.given (flat_cursor a.cursor)

-- ---- claims

abbrev pub lookup_answer : List ℕ → List ℕ → ℕ → FlatLocation
lookup_answer area fixed index = flat_location (location_of area fixed index)

-- the bytes that an answer tells of
abbrev pub told_by : List ℕ → List ℕ → FlatLocation → List ℕ
told_by area fixed f =
    cond (eqb f.buffer 1) (take f.length (drop f.offset area))
    (cond (eqb f.buffer 2) (take f.length (drop f.offset fixed)) [])

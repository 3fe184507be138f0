-- What is claimed of the definitions of `Flat`.
use Rattle.std.specs.Prelude.{ℕ, ◌≡◌, List}
use Rattle.words.specs.Claims.Exactly.{Exactly}
use Rattle.indices.specs.declared.reading.Refusal.{Refusal}
use Rattle.indices.specs.declared.reading.Refusal.TheVariants.{Short, Past, Length, Code}
use Rattle.indices.specs.declared.reading.Cursor.{Cursor}
use Rattle.indices.specs.Reading.{refusal_number}
use Rattle.locations.specs.declared.listed.Part.{Part}
use Rattle.locations.specs.declared.lookups.Location.TheVariants as location
use Rattle.locations.specs.declared.views.Given.TheVariants as given
use Rattle.locations.specs.Claims.Locations.{lookup_of}
use Rattle.draugsten_locations.specs.declared.looking.FlatLocation.{FlatLocation}
use Rattle.draugsten_locations.specs.declared.viewing.FlatCursor.{FlatCursor}
use Rattle.draugsten_locations.specs.Flat.{flat_location, flat_cursor, cursor_from, flat_step, lookup_answer, told_by}

-- An answer tells the lookup's code, and has length 0 exactly when its number is not 0.
pub record LookupTold (area fixed : List ℕ) (index : ℕ) (f : FlatLocation) : Type 0 where
  pub code : told_by area fixed f ≡ lookup_of area fixed index
  pub empty : Exactly (f.length ≡ 0) (f.number ≡ 0 → ⊥)

abbrev pub LookupCrossing : Type 0
LookupCrossing = (area fixed : List ℕ) (index : ℕ) → LookupTold area fixed index (lookup_answer area fixed index)

-- A cursor that crossed comes back.
abbrev pub ViewCrossing : Type 0
ViewCrossing = ((c : Cursor) → cursor_from (flat_cursor c) ≡ c) × ((f : FlatCursor) → flat_cursor (cursor_from f) ≡ f)

-- The numbers of the area's refusals.
abbrev pub RefusalNumbers : Type 0
RefusalNumbers = (refusal_number Short ≡ 30) × (refusal_number Past ≡ 31) × (refusal_number Length ≡ 32) × (refusal_number Code ≡ 33)

-- Each answer in the header's numbers: 0 found, 34 not found, 30 to 33 at the refusal's offset.
abbrev pub LookupNumbers : Type 0
LookupNumbers =
    (r : Refusal) (at : ℕ) (p : Part)
    → (flat_location (location.Refused r at) ≡ record { number = refusal_number r; buffer = 0; offset = at; length = 0 })
    × (flat_location location.NotFound ≡ record { number = 34; buffer = 0; offset = 0; length = 0 })
    × (flat_location (location.InArea p) ≡ record { number = 0; buffer = 1; offset = p.start; length = p.length })
    × (flat_location (location.InFixed p) ≡ record { number = 0; buffer = 2; offset = p.start; length = p.length })

-- Each step: 0 with an entry, 35 at the end, 30 to 33 at the refusal's offset, and the cursor under its own names.
abbrev pub StepNumbers : Type 0
StepNumbers =
    (index : ℕ) (p : Part) (r : Refusal) (at : ℕ) (c : Cursor)
    → (flat_cursor c ≡ record { at = c.at; left = c.left })
    × (flat_step (record { given = given.Entry index p; cursor = c })
    ≡ record { number = 0; index = index; offset = p.start; length = p.length; cursor = record { at = c.at; left = c.left } })
    × (flat_step (record { given = given.End; cursor = c }) ≡ record {
      number = 35;
      index = 0;
      offset = 0;
      length = 0;
      cursor = record { at = c.at; left = c.left };
    })
    × (flat_step (record { given = given.Refused r at; cursor = c })
    ≡ record { number = refusal_number r; index = 0; offset = at; length = 0; cursor = record { at = c.at; left = c.left } })

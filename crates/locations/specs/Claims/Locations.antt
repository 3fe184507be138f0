-- What is claimed of a lookup, cited by the contracts of `locate`, `check` and `lookup`, and of a view, cited by those of `view_of` and its steps
-- (document 02, M-112).
use Rattle.std.specs.Prelude.{ℕ, suc, ◌+◌, ◌-◌, ◌≤◌, ◌<◌, ◌≡◌, List, [], ◌∷◌, ◌++◌, length, get_or, take}
use Rattle.words.specs.Claims.Exactly.{Exactly}
use Rattle.words.specs.Numbers.{be}
use Rattle.words.specs.Nul.{until_nul}
use Rattle.words.specs.Reading.{read, refused}
use Rattle.inventory.specs.Listing.{Entry}
use Rattle.indices.specs.declared.reading.Refusal.{Refusal}
use Rattle.indices.specs.declared.reading.Refusal.TheVariants.{Short}
use Rattle.indices.specs.declared.reading.Cursor.{Cursor}
use Rattle.indices.specs.Reading.{read_from, reading}
use Rattle.indices.specs.Cursor.{start_of}
use Rattle.indices.specs.Claims.Longest.{taken}
use Rattle.locations.specs.declared.listed.Part.{Part}
use Rattle.locations.specs.declared.lookups.Location.TheVariants as location
use Rattle.locations.specs.declared.lookups.Answer.{Answer}
use Rattle.locations.specs.declared.lookups.Answer.TheVariants as answer
use Rattle.locations.specs.declared.views.Given.TheVariants as given
use Rattle.locations.specs.Locations.{fixed_location, location_of, answer_of, code_of, place_of}
use Rattle.locations.specs.Views.{advance_of, cursor_behind, step_number, listing, reading_by, shown, entry, last}
use Rattle.locations.specs.Cases.Readings.{LookupReadings}

-- what the two public functions give
abbrev pub lookup_of : List ℕ → List ℕ → ℕ → List ℕ
lookup_of area fixed index = code_of area fixed (location_of area fixed index)

abbrev pub check_of : List ℕ → List ℕ → ℕ → Answer
check_of area fixed index = answer_of (location_of area fixed index)

-- ---- the lookup

-- "the lookup hands back an empty part exactly when that check refuses"
abbrev pub EmptyExactly : Type 0
EmptyExactly = (area fixed : List ℕ) (index : ℕ) → Exactly (lookup_of area fixed index ≡ []) (check_of area fixed index ≡ answer.Found → ⊥)

-- "Refusals: 30 to 33 for the area", whatever the fixed list and the index
abbrev pub RefusedFirst : Type 0
RefusedFirst = (area fixed : List ℕ) (index : ℕ) (r : Refusal) (at : ℕ)
    → Exactly (location_of area fixed index ≡ location.Refused r at) (reading area ≡ refused r at)

-- "0xFFFFFFFF is always not found"
abbrev pub Reserved : Type 0
Reserved = (area fixed : List ℕ) (es : List Entry) → reading area ≡ read es → location_of area fixed 0xffff_ffff ≡ location.NotFound

-- "told by a check of its own": the check tells a location's kind, and a refusal as it is
abbrev pub CheckTells : Type 0
CheckTells =
    (r : Refusal) (at : ℕ) (p : Part)
    → (answer_of (location.Refused r at) ≡ answer.Refused r at) × (answer_of location.NotFound ≡ answer.NotFound)
    × (answer_of (location.InArea p) ≡ answer.Found) × (answer_of (location.InFixed p) ≡ answer.Found)

-- none of these entries lists an index
abbrev pub Unlisted : ℕ → List Entry → Type 0
Unlisted index [] = Unit {0}
Unlisted index (e ∷ es) = (e.index ≡ index → ⊥) × Unlisted index es

-- "an index that the area lists wins, first match": its code is the entry's, where it stands behind the entries before it, whatever the fixed list
pub record Wins (area fixed : List ℕ) (index : ℕ) (before : List Entry) (e : Entry) : Type 0 where
  pub place : location_of area fixed index ≡ location.InArea (record { start = 4 + taken before + 8; length = length e.code })
  pub code : lookup_of area fixed index ≡ e.code

abbrev pub ListedWins : Type 0
ListedWins =
    (area fixed : List ℕ) (index : ℕ) (before after : List Entry) (e : Entry) → reading area ≡ read (before ++ (e ∷ after))
    → (index ≡ 0xffff_ffff → ⊥) → Unlisted index before → e.index ≡ index → Wins area fixed index before e

-- "otherwise the fixed list"
abbrev pub OtherwiseFixed : Type 0
OtherwiseFixed =
    (area fixed : List ℕ) (index : ℕ) (es : List Entry) → reading area ≡ read es → (index ≡ 0xffff_ffff → ⊥) → Unlisted index es
    → location_of area fixed index ≡ fixed_location fixed index

-- ---- the fixed list

-- codes without a NUL inside, each with its NUL behind it
abbrev pub Plain : List ℕ → Type 0
Plain code = until_nul code ≡ code

abbrev pub AllPlain : List (List ℕ) → Type 0
AllPlain [] = Unit {0}
AllPlain (c ∷ cs) = Plain c × AllPlain cs

unfoldable pub ended : List (List ℕ) → List ℕ
ended [] = []
ended (c ∷ cs) = c ++ (0 ∷ ended cs)

-- "NUL-terminated codes, entry number, from 0, equal to index"; "An empty code, or one without its NUL in the fixed list, counts as not found."
pub record FixedExactly (codes : List (List ℕ)) (rest area : List ℕ) (index : ℕ) : Type 0 where
  pub code : index < length codes → code_of area (ended codes ++ rest) (fixed_location (ended codes ++ rest) index) ≡ get_or codes index []
  pub place : index < length codes → (get_or codes index [] ≡ [] → ⊥)
      → fixed_location (ended codes ++ rest) index ≡ location.InFixed (record {
        start = length (ended (take index codes));
        length = length (get_or codes index []);
      })
  pub empty : index < length codes → get_or codes index [] ≡ [] → fixed_location (ended codes ++ rest) index ≡ location.NotFound
  pub past : Plain rest → length codes ≤ index → fixed_location (ended codes ++ rest) index ≡ location.NotFound

abbrev pub EachFixed : Type 0
EachFixed = (codes : List (List ℕ)) (rest area : List ℕ) (index : ℕ) → AllPlain codes → FixedExactly codes rest area index

-- "as it stands in whichever buffer had it": where a part begins, by the pointers of the area and of the fixed list
pub record PlaceTold : Type 0 where
  pub in_area : (area fixed : ℕ × ℕ) (p : Part) → place_of area fixed (location.InArea p) ≡ (area.0, p.start + area.1)
  pub in_fixed_claim : (area fixed : ℕ × ℕ) (p : Part) → place_of area fixed (location.InFixed p) ≡ (fixed.0, p.start + fixed.1)
  pub nothing : (area fixed : ℕ × ℕ) (r : Refusal) (at : ℕ) → (place_of area fixed location.NotFound ≡ area)
      × (place_of area fixed (location.Refused r at) ≡ area)

pub record LocationClaims : Type 0 where
  pub place_told : PlaceTold
  pub empty_exactly : EmptyExactly
  pub refused_first : RefusedFirst
  pub reserved : Reserved
  pub check_tells : CheckTells
  pub listed_wins : ListedWins
  pub otherwise_fixed : OtherwiseFixed
  pub each_fixed : EachFixed
  pub ended_is : (ended [] ≡ []) × ((c : List ℕ) (cs : List (List ℕ)) → ended (c ∷ cs) ≡ c ++ (0 ∷ ended cs))
  pub readings : LookupReadings

-- ---- the view

-- The reader gives the entries of the listing by steps, or its refusal without them.
abbrev pub AsTheReader : Type 0
AsTheReader = (area : List ℕ) → reading area ≡ reading_by (listing area).last (listing area).entries

-- "its steps from the start give the area's entries in order", step number n from 0 entry number n
abbrev pub EachEntry : Type 0
EachEntry = (area : List ℕ) (before after : List Entry) (e : Entry) → (listing area).entries ≡ before ++ (e ∷ after)
    → shown area (step_number (length before) area) ≡ entry e

-- "then the end or the reading's refusal, and that again"
abbrev pub ThenTheLast : Type 0
ThenTheLast = (area : List ℕ) (n : ℕ) → length (listing area).entries ≤ n → shown area (step_number n area) ≡ last (listing area).last

-- Any cursor is answered: a step from it is the reading of one set there.
pub record StepRead (area : List ℕ) (c : Cursor) : Type 0 where
  pub short : length area < 4 → advance_of area c ≡ record { given = given.Refused Short 0; cursor = c }
  pub ended : 4 ≤ length area → c.left ≡ 0 → advance_of area c ≡ record { given = given.End; cursor = c }
  pub refused : 4 ≤ length area → (c.left ≡ 0 → ⊥) → (r : Refusal) (at : ℕ) → read_from 1 area c.at ≡ refused r at
      → advance_of area c ≡ record { given = given.Refused r at; cursor = c }
  pub passed : 4 ≤ length area → (c.left ≡ 0 → ⊥) → (e : Entry) → read_from 1 area c.at ≡ read (e ∷ [])
      → advance_of area c ≡ record {
        given = given.Entry e.index (record { start = c.at + 8; length = length e.code });
        cursor = record { at = c.at + taken (e ∷ []); left = c.left - 1 };
      }

abbrev pub EachStep : Type 0
EachStep = (area : List ℕ) (c : Cursor) → StepRead area c

-- A view starts before the first set, with as many to come as the area's first word says; an area of under 4 bytes has none.
pub record StartExactly (area : List ℕ) : Type 0 where
  pub short : length area < 4 → start_of area ≡ record { at = 4; left = 0 }
  pub start : 4 ≤ length area → start_of area ≡ record { at = 4; left = be 4 area 0 }
  pub first : cursor_behind 0 area ≡ start_of area
  pub next : (n : ℕ) → (cursor_behind (suc n) area ≡ (advance_of area (cursor_behind n area)).cursor)
      × (step_number n area ≡ (advance_of area (cursor_behind n area)).given)

abbrev pub EachViewStart : Type 0
EachViewStart = (area : List ℕ) → StartExactly area

pub record ViewClaims : Type 0 where
  pub each_start : EachViewStart
  pub as_the_reader : AsTheReader
  pub each_entry : EachEntry
  pub then_the_last : ThenTheLast
  pub each_step : EachStep

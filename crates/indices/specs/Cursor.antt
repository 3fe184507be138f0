-- Reading the entries of an index work area one at a time.
use Rattle.std.specs.Prelude.{cond, ◌||◌, List, [], ◌∷◌, ℕ, zero, suc, ◌+◌, ◌-◌, ltb, eqb, length, take, drop, Option, None, Some}
use Rattle.inventory.specs.Listing.{Entry}
use Rattle.words.specs.Numbers.{be32}
use Rattle.words.specs.Nul.{until_nul}
use Rattle.indices.specs.declared.reading.Cursor.{Cursor}
use Rattle.indices.specs.declared.reading.Set.{Set}
use Rattle.indices.specs.Reading.{length_at, field_at, entry_at}

-- the entries of n sets from a byte offset on, as far as there are eight bytes for each
unfoldable pub entries_from : ℕ → List ℕ → ℕ → List Entry
entries_from zero area at = []
entries_from (suc n) area at =
    let more = entry_at area at ∷ entries_from n area (at + (8 + length_at area at)) in
    cond (ltb (length area - at) 8) [] more

-- the entries that a cursor has before it
unfoldable pub remaining : List ℕ → Cursor → List Entry
remaining area c = entries_from c.left area c.at

-- the entry that a set tells: its index, and its code as a part of the area
abbrev pub entry_in : List ℕ → Set → Entry
entry_in area s = record { index = s.index; code = take s.length (drop s.start area) }

-- The step of a cursor: its next set and the cursor behind it, or the end where no set is left or fewer than eight bytes are.
unfoldable pub next_of : List ℕ → Cursor → Option (Set × Cursor)
next_of area c =
    let found = Some (
      record { index = be32 area c.at; start = c.at + 8; length = length (until_nul (field_at area c.at)) },
      record { at = c.at + (8 + length_at area c.at); left = c.left - 1 },
    ) in
    cond (eqb c.left 0 || ltb (length area - c.at) 8) None found

-- before the first set; an area of under 4 bytes has none
abbrev pub start_of : List ℕ → Cursor
start_of area = record { at = 4; left = cond (ltb (length area) 4) 0 (be32 area 0) }

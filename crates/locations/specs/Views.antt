-- A view of an index work area, step by step (document 02, M-112).
use Rattle.std.specs.Prelude.{ℕ, zero, suc, ◌+◌, ◌-◌, cond, List, [], ◌∷◌, ltb, eqb, length, take, drop, Err, Ok, Result}
use Rattle.words.specs.Numbers.{be32}
use Rattle.words.specs.Reading.{Reading, read, refused}
use Rattle.inventory.specs.Listing.{Entry}
use Rattle.indices.specs.declared.reading.Refusal.{Refusal}
use Rattle.indices.specs.declared.reading.Refusal.TheVariants.{Short}
use Rattle.indices.specs.declared.reading.Cursor.{Cursor}
use Rattle.indices.specs.Reading.{length_at, fault_at, entry_at}
use Rattle.indices.specs.Cursor.{start_of}
use Rattle.locations.specs.declared.views.Given.{Given}
use Rattle.locations.specs.declared.views.Given.TheVariants as given
use Rattle.locations.specs.declared.views.Advance.{Advance}
use Rattle.locations.specs.Locations.{part_at}

-- ---- a step, from any cursor

-- past the set at a cursor
abbrev pub pass_of : List ℕ → Cursor → Advance
pass_of area c =
    record { given = given.Entry (be32 area c.at) (part_at area c.at); cursor = record { at = c.at + (8 + length_at area c.at); left = c.left - 1 } }

abbrev pub stays : Given → Cursor → Advance
stays g c = record { given = g; cursor = c }

abbrev pub advance_by : Result (Unit {0}) Refusal → List ℕ → Cursor → Advance
advance_by (Ok u) area c = pass_of area c
advance_by (Err r) area c = stays (given.Refused r c.at) c

-- "its steps from the start give the area's entries in order, then the end or the reading's refusal, and that again"
unfoldable pub advance_of : List ℕ → Cursor → Advance
advance_of area c =
    let judged = advance_by (fault_at area c.at) area c in
    cond (ltb (length area) 4) (stays (given.Refused Short 0) c) (cond (eqb c.left 0) (stays given.End c) judged)

-- the cursor behind n steps from an area's start, and what the step behind them gives
unfoldable pub cursor_behind : ℕ → List ℕ → Cursor
cursor_behind zero area = start_of area
cursor_behind (suc n) area = (advance_of area (cursor_behind n area)).cursor

abbrev pub step_number : ℕ → List ℕ → Given
step_number n area = (advance_of area (cursor_behind n area)).given

-- ---- a reading by steps, beside the reader's: the entries before the end or the refusal are given too

pub data Last : Type 0 where
  end : Last
  refusal : Refusal → ℕ → Last

pub record Listed : Type 0 where
  pub entries : List Entry
  pub last : Last

abbrev pub nothing_then : Last → Listed
nothing_then l = record { entries = []; last = l }

abbrev pub entry_then : Entry → Listed → Listed
entry_then e later = record { entries = e ∷ later.entries; last = later.last }

abbrev pub listed_by : Result (Unit {0}) Refusal → ℕ → Listed → Listed
listed_by (Ok u) at more = more
listed_by (Err r) at more = nothing_then (refusal r at)

-- n sets from a byte offset on, up to the first fault
unfoldable pub listed_from : ℕ → List ℕ → ℕ → Listed
listed_from zero area at = nothing_then end
listed_from (suc n) area at =
    let more = entry_then (entry_at area at) (listed_from n area (at + (8 + length_at area at))) in
    listed_by (fault_at area at) at more

unfoldable pub listing : List ℕ → Listed
listing area = let all = listed_from (be32 area 0) area 4 in cond (ltb (length area) 4) (nothing_then (refusal Short 0)) all

-- what the reader gives: the entries, or the refusal without them
abbrev pub reading_by : Last → List Entry → Reading Entry Refusal
reading_by end es = read es
reading_by (refusal r at) es = refused r at

-- ---- what a step gives, as the entry with its code's bytes

pub data Shown : Type 0 where
  entry : Entry → Shown
  last : Last → Shown

abbrev pub shown : List ℕ → Given → Shown
shown area (given.Entry index p) = entry (record { index = index; code = take p.length (drop p.start area) })
shown area given.End = last end
shown area (given.Refused r at) = last (refusal r at)

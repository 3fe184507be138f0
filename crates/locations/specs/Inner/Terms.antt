-- Terms of the contracts of private functions; no public promise cites them.
use Rattle.std.specs.Prelude.{ℕ, zero, suc, ◌+◌, ◌-◌, ◌≤◌, ◌<◌, ◌≡◌, true, false, cond, List, [], ◌∷◌, eqb, length, drop, Ok, Bool, Option, None, Some, Result, Err}
use Rattle.words.specs.Numbers.{be32}
use Rattle.words.specs.Reading.{Reading, read, refused}
use Rattle.inventory.specs.Listing.{Entry}
use Rattle.indices.specs.declared.reading.Refusal.{Refusal}
use Rattle.indices.specs.Reading.{length_at, fault_at, reading}
use Rattle.words.specs.declared.refused.Refused.{Refused}
use Rattle.locations.specs.declared.fixed.Place.{Place}
use Rattle.locations.specs.declared.lookups.Location.{Location}
use Rattle.locations.specs.declared.lookups.Location.TheVariants as location
use Rattle.locations.specs.declared.lookups.Bounds.{Bounds}
use Rattle.locations.specs.Locations.{behind_nuls}

-- a good set stands at a byte offset
abbrev pub Sets : List ℕ → ℕ → Type 0
Sets area at = fault_at area at ≡ Ok tt

-- the first of two offsets: one that was found before stays
abbrev pub first_found : Option ℕ → ℕ → Bool → Option ℕ
first_found (Some n) at lists = Some n
first_found None at lists = cond lists (Some at) None

-- the byte offset of the first of n sets that lists an index, where one does
unfoldable pub first_from : ℕ → List ℕ → ℕ → ℕ → Option ℕ
first_from zero area at index = None
first_from (suc n) area at index = let later = first_from n area (at + (8 + length_at area at)) index in cond (eqb (be32 area at) index) (Some at) later

abbrev pub listing_by : Reading Entry Refusal → List ℕ → ℕ → Result (Option ℕ) (Refused Refusal)
listing_by (refused r at) area index = Err (record { refusal = r; offset = at })
listing_by (read es) area index = Ok (first_from (be32 area 0) area 4 index)

unfoldable pub listing_of : List ℕ → ℕ → Result (Option ℕ) (Refused Refusal)
listing_of area index = listing_by (reading area) area index

-- how many NULs there are
unfoldable pub nuls : List ℕ → ℕ
nuls [] = 0
nuls (b ∷ bs) = cond (eqb b 0) 1 0 + nuls bs

-- where the bytes behind so many NULs begin
abbrev pub entry_start : List ℕ → ℕ → ℕ
entry_start fixed index = length fixed - length (behind_nuls index fixed)

-- whole blocks are past: the bytes behind the NULs that are left are those behind all of them
pub record Skips (fixed : List ℕ) (index : ℕ) (p : Place) : Type 0 where
  pub inside : p.at ≤ length fixed
  pub same : behind_nuls p.left (drop p.at fixed) ≡ behind_nuls index fixed

-- ---- a location by its bounds

abbrev pub no_bounds : Bounds
no_bounds = record { fixed = false; start = 0; end = 0 }

abbrev pub bounds_of : Location → Bounds
bounds_of (location.Refused r at) = no_bounds
bounds_of location.NotFound = no_bounds
bounds_of (location.InArea p) = record { fixed = false; start = p.start; end = p.start + p.length }
bounds_of (location.InFixed p) = record { fixed = true; start = p.start; end = p.start + p.length }

-- its end is a number of 64 bits
abbrev pub Narrow : Location → Type 0
Narrow l = (bounds_of l).end < 0x1_0000_0000_0000_0000

-- One lookup over an index work area and the fixed list of codes (document 02, M-112).
use Rattle.std.specs.Prelude.{ℕ, zero, suc, ◌+◌, ◌-◌, cond, List, [], ◌∷◌, ltb, eqb, length, take, drop}
use Rattle.words.specs.Numbers.{be32}
use Rattle.words.specs.Nul.{until_nul}
use Rattle.words.specs.Reading.{Reading, read, refused}
use Rattle.inventory.specs.Listing.{Entry}
use Rattle.indices.specs.declared.reading.Refusal.{Refusal}
use Rattle.indices.specs.Reading.{length_at, field_at, reading}
use Rattle.locations.specs.declared.listed.Part.{Part}
use Rattle.locations.specs.declared.lookups.Location.{Location}
use Rattle.locations.specs.declared.lookups.Location.TheVariants as location
use Rattle.locations.specs.declared.lookups.Answer.{Answer}
use Rattle.locations.specs.declared.lookups.Answer.TheVariants as answer

-- ---- the fixed list: "NUL-terminated codes, entry number, from 0, equal to index"

-- the bytes behind so many NULs; none where there are fewer
unfoldable pub behind_nuls : ℕ → List ℕ → List ℕ
behind_nuls zero b = b
behind_nuls (suc k) [] = []
behind_nuls (suc k) (b ∷ bs) = cond (eqb b 0) (behind_nuls k bs) (behind_nuls (suc k) bs)

-- where the code of an entry stands; "an empty code, or one without its NUL in the fixed list, counts as not found": it has length 0
unfoldable pub fixed_part : List ℕ → ℕ → Part
fixed_part fixed index =
    let rest = behind_nuls index fixed in
    let code = until_nul rest in
    record { start = length fixed - length rest; length = cond (ltb (length code) (length rest)) (length code) 0 }

unfoldable pub fixed_location : List ℕ → ℕ → Location
fixed_location fixed index = cond (eqb (fixed_part fixed index).length 0) location.NotFound (location.InFixed (fixed_part fixed index))

-- ---- the area: "an index that the area lists wins, first match"

-- where the code of the set at a byte offset stands, without its NULs
abbrev pub part_at : List ℕ → ℕ → Part
part_at area at = record { start = at + 8; length = length (until_nul (field_at area at)) }

-- the first of n sets, from a byte offset on, that lists an index; "otherwise the fixed list"
unfoldable pub first_listed : ℕ → List ℕ → ℕ → ℕ → Location → Location
first_listed zero area at index otherwise = otherwise
first_listed (suc n) area at index otherwise =
    let later = first_listed n area (at + (8 + length_at area at)) index otherwise in
    cond (eqb (be32 area at) index) (location.InArea (part_at area at)) later

-- ---- the lookup

-- "Refusals: 30 to 33 for the area, then not found", "0xFFFFFFFF is always not found"
abbrev pub location_by : Reading Entry Refusal → List ℕ → List ℕ → ℕ → Location
location_by (refused r at) area fixed index = location.Refused r at
location_by (read es) area fixed index = cond (eqb index 0xffff_ffff) location.NotFound (first_listed (be32 area 0) area 4 index (fixed_location fixed index))

unfoldable pub location_of : List ℕ → List ℕ → ℕ → Location
location_of area fixed index = location_by (reading area) area fixed index

-- "told by a check of its own on the same inputs"
abbrev pub answer_of : Location → Answer
answer_of (location.Refused r at) = answer.Refused r at
answer_of location.NotFound = answer.NotFound
answer_of (location.InArea p) = answer.Found
answer_of (location.InFixed p) = answer.Found

-- "the code itself as it stands in whichever buffer had it, without its NULs"
abbrev pub code_of : List ℕ → List ℕ → Location → List ℕ
code_of area fixed (location.Refused r at) = []
code_of area fixed location.NotFound = []
code_of area fixed (location.InArea p) = take p.length (drop p.start area)
code_of area fixed (location.InFixed p) = take p.length (drop p.start fixed)

-- where a part that is handed back begins, by the pointers of both buffers, each a block and an offset; the area's start if nothing is found
abbrev pub place_of : ℕ × ℕ → ℕ × ℕ → Location → ℕ × ℕ
place_of area fixed (location.Refused r at) = area
place_of area fixed location.NotFound = area
place_of area fixed (location.InArea p) = (area.0, p.start + area.1)
place_of area fixed (location.InFixed p) = (fixed.0, p.start + fixed.1)

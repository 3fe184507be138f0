-- Reading an index work area (document 01, "Readers").
use Rattle.std.specs.Prelude.{ℕ, zero, suc, ◌+◌, ◌-◌, ◌%◌, Bool, cond, ◌&&◌, not, List, [], ◌∷◌, leb, ltb, eqb, length, take, drop, Result, Ok, Err}
use Rattle.words.specs.Reading.{Reading, read, refused}
use Rattle.words.specs.Numbers.{be32, zeros}
use Rattle.words.specs.Nul.{until_nul}
use Rattle.inventory.specs.Listing.{Entry}
use Rattle.indices.specs.declared.reading.Refusal.{Refusal}
use Rattle.indices.specs.declared.reading.Refusal.TheVariants.{Short, Past, Length, Code}
use Rattle.words.specs.declared.refused.Refused.{Refused}
use Rattle.indices.specs.Area.{field_limit}

-- 01: "Index areas: 30 under 4 bytes (0); then for each set, at its offset: 31 under 8 bytes left; 32 length zero, above 80 or no multiple of 4;
-- 31 code past the end; 33 not a non-empty code followed by one to four NULs and nothing else." 02, M-113: "the reader (refusal 32 above 1,024)"
abbrev pub refusal_number : Refusal → ℕ
refusal_number Short = 30
refusal_number Past = 31
refusal_number Length = 32
refusal_number Code = 33

-- a set at a byte offset: its length, and the field of the code with its NULs
unfoldable pub length_at : List ℕ → ℕ → ℕ
length_at area at = be32 area (at + 4)

unfoldable pub field_at : List ℕ → ℕ → List ℕ
field_at area at = take (length_at area at) (drop (at + 8) area)

unfoldable pub good_length : ℕ → Bool
good_length n = leb 1 n && (leb n field_limit && eqb (n % 4) 0)

-- 01: "The code's end is found by a search that stops at the first NUL." A good field is
-- "a non-empty code followed by one to four NULs and nothing else".
unfoldable pub good_field : List ℕ → Bool
good_field f = leb 1 (length (until_nul f)) && (leb (length (until_nul f) + 1) (length f)
    && (leb (length f) (length (until_nul f) + 4) && zeros (drop (length (until_nul f)) f)))

-- the first fault of a set, in the paper's order
unfoldable pub fault_at : List ℕ → ℕ → Result (Unit {0}) Refusal
fault_at area at =
    cond (ltb (length area - at) 8) (Err Past)
    (cond (not (good_length (length_at area at))) (Err Length)
    (cond (ltb (length area - at) (8 + length_at area at)) (Err Past)
    (cond (not (good_field (field_at area at))) (Err Code)
    (Ok tt))))

abbrev pub entry_at : List ℕ → ℕ → Entry
entry_at area at = record { index = be32 area at; code = until_nul (field_at area at) }

abbrev pub with_entry : Entry → Reading Entry Refusal → Reading Entry Refusal
with_entry e (read es) = read (e ∷ es)
with_entry e (refused r at) = refused r at

abbrev pub judged_by : Result (Unit {0}) Refusal → ℕ → Reading Entry Refusal → Reading Entry Refusal
judged_by (Ok u) at more = more
judged_by (Err r) at more = refused r at

-- the next n sets from a byte offset on
unfoldable pub read_from : ℕ → List ℕ → ℕ → Reading Entry Refusal
read_from zero area at = read []
read_from (suc n) area at =
    let more = with_entry (entry_at area at) (read_from n area (at + (8 + length_at area at))) in
    judged_by (fault_at area at) at more

-- The first word is the number of sets. Bytes after the last set aren't looked at.
unfoldable pub reading : List ℕ → Reading Entry Refusal
reading area =
    let found = read_from (be32 area 0) area 4 in
    cond (ltb (length area) 4) (refused Short 0) found

-- What a check of an area tells of its reading: the number of its entries, or the refusal.
abbrev pub check_of : Reading Entry Refusal → Result ℕ (Refused Refusal)
check_of (read es) = Ok (length es)
check_of (refused r at) = Err (record { refusal = r; offset = at })

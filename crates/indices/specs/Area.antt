-- The index work area that a call leaves (document 01, "get-indices").
use Rattle.std.specs.Prelude.{ℕ, ◌+◌, ◌*◌, ◌-◌, ◌/◌, cond, List, [], ◌∷◌, ◌++◌, leb, length, drop, replicate}
use Rattle.words.specs.Numbers.{be_bytes}
use Rattle.inventory.specs.Inventory.{code_limit}
use Rattle.inventory.specs.Listing.{Entry}

-- 01: "the code, NUL-filled to the next multiple of 4 with at least one NUL. The length counts the NULs."
abbrev pub filled : ℕ → ℕ
filled c = 4 * (c / 4 + 1)

-- 01: "A code of c bytes takes 8 + 4 x (c / 4 + 1) bytes, rounding the quotient down."
abbrev pub entry_size : ℕ → ℕ
entry_size c = 8 + filled c

-- the field and the entry of the longest code, and the count and that entry: 1,024, 1,032 and 1,036 bytes
-- 02, M-113: "the entry size's stated bound (now 1,032 bytes), the reader (refusal 32 above 1,024) and the size that always holds the entry due (1,036)"
abbrev pub field_limit : ℕ
field_limit = filled code_limit

abbrev pub entry_limit : ℕ
entry_limit = entry_size code_limit

abbrev pub ample_size : ℕ
ample_size = 4 + entry_limit

-- 01: "for each entry the index, the length and the code"
unfoldable pub code_field : List ℕ → List ℕ
code_field code = code ++ replicate (filled (length code) - length code) 0

unfoldable pub entry_bytes : Entry → List ℕ
entry_bytes e = be_bytes 4 e.index ++ (be_bytes 4 (filled (length e.code)) ++ code_field e.code)

unfoldable pub entries_bytes : List Entry → List ℕ
entries_bytes [] = []
entries_bytes (e ∷ es) = entry_bytes e ++ entries_bytes es

-- 01: "The longest fitting run is returned"
unfoldable pub fitting : ℕ → List Entry → List Entry
fitting room [] = []
fitting room (e ∷ es) =
    let more = e ∷ fitting (room - entry_size (length e.code)) es in
    cond (leb (entry_size (length e.code)) room) more []

-- the run from a Starting Number on, counted from 1, in an area of a size: the count has its four bytes
unfoldable pub run : ℕ → ℕ → List Entry → List Entry
run size number es = fitting (size - 4) (drop (number - 1) es)

-- 01: "The area holds the count, then for each entry the index, the length and the code"
unfoldable pub answer : List Entry → List ℕ
answer es = be_bytes 4 (length es) ++ entries_bytes es

-- 01: "later bytes stay unchanged"
unfoldable pub written : List ℕ → List Entry → List ℕ
written area es = answer es ++ drop (length (answer es)) area

-- 01: "never zero entries": without one the area stays as it is
unfoldable pub area_after : List ℕ → List Entry → List ℕ
area_after area [] = area
area_after area (e ∷ es) = written area (e ∷ es)

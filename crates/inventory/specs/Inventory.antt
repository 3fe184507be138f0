-- The inventory's records (document 01, "Journal and inventory").
use Rattle.std.specs.Prelude.{ℕ, ◌+◌, Bool, true, ◌&&◌, not, List, [], ◌∷◌, leb, eqb, length, drop}
use Rattle.words.specs.Numbers.{le16, le32}
use Rattle.records.specs.Records.{kind_of, size_of, well_formed_by, size_limit}

-- 01: "kind 16 holds two bytes (0 indicator, 1 sensor), a four-byte type, a four-byte index and a location code of 1 to 79 non-zero bytes; length 12
-- plus the code."
-- 02, M-113: "codes up to 1,023 bytes"
abbrev pub item_kind : ℕ
item_kind = 16

-- the most bytes of a code
unfoldable pub code_limit : ℕ
code_limit = 1023

-- the bytes of a record before its code: those of its length, and twelve
abbrev pub head_size : ℕ
head_size = 14

unfoldable pub flag_of : List ℕ → ℕ
flag_of r = le16 r 4

unfoldable pub type_of : List ℕ → ℕ
type_of r = le32 r 6

unfoldable pub index_of : List ℕ → ℕ
index_of r = le32 r 10

unfoldable pub code_of : List ℕ → List ℕ
code_of r = drop head_size r

-- no byte is zero
unfoldable pub all_non_zero : List ℕ → Bool
all_non_zero [] = true
all_non_zero (b ∷ bs) = not (eqb b 0) && all_non_zero bs

-- 01: "Any other kind, length, node type or flag, a NUL in a code, or an oversized buffer is malformed."
-- A record is good where its head and its code are: a head of this size, kind and flag ..
abbrev pub good_numbers : ℕ → ℕ → ℕ → Bool
good_numbers size kind flag = leb (head_size + 1) size && (leb size (head_size + code_limit) && (eqb kind item_kind && leb flag 1))

unfoldable pub good_head : List ℕ → Bool
good_head r = good_numbers (size_of r) (kind_of r) (flag_of r)

-- .. and the code
unfoldable pub good_code : List ℕ → Bool
good_code code = leb 1 (length code) && (leb (length code) code_limit && all_non_zero code)

unfoldable pub good_record : List ℕ → Bool
good_record r = good_head r && good_code (code_of r)

-- 01: "Inventory, same limit"
unfoldable pub well_formed : List ℕ → Bool
well_formed inventory = well_formed_by size_limit good_record inventory

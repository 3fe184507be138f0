-- Records of changed and deleted properties (document 02, M-103).
use Rattle.std.specs.Prelude.{ℕ, ◌+◌, Bool, cond, ◌&&◌, List, leb, eqb, length, drop}
use Rattle.words.specs.Numbers.{le32}
use Rattle.words.specs.Nul.{until_nul, is_ended}
use Rattle.records.specs.Records.{length_of, kind_of}

-- 02: "names have 1 to 31 non-zero bytes, values 0 to 32,768"
abbrev pub name_limit : ℕ
name_limit = 31

abbrev pub value_limit : ℕ
value_limit = 32_768

-- the bytes before a name: length, kind and phandle
abbrev pub name_place : ℕ
name_place = 8

-- 02: "Journal kind 5 holds a phandle, a name with one NUL and a new value to the record's end, kind 6 a phandle and a deleted property's name with one NUL"
abbrev pub phandle_of : List ℕ → ℕ
phandle_of r = le32 r 4

unfoldable pub name_of : List ℕ → List ℕ
name_of r = until_nul (drop name_place r)

-- where the value begins in the record: behind the name's NUL
abbrev pub value_start : List ℕ → ℕ
value_start r = name_place + length (name_of r) + 1

unfoldable pub value_of : List ℕ → List ℕ
value_of r = drop (value_start r) r

-- the most bytes of value in a record of a kind: kind 6 has none
abbrev pub value_most : ℕ → ℕ
value_most kind = cond (eqb kind 5) value_limit 0

-- kind, phandle, a name with its NUL and, in kind 5, a value: lengths 8 to 32,806 and 8 to 38
unfoldable pub property_frame : ℕ → ℕ → Bool
property_frame len kind = (leb 5 kind && leb kind 6) && (leb 8 len && leb len (7 + name_limit + value_most kind))

-- a good record of a property: the frame, then the body; name and value are judged by themselves
unfoldable pub good_property : List ℕ → Bool
good_property r = property_frame (length_of r) (kind_of r) && (is_ended name_limit (drop name_place r) && leb (length (value_of r)) (value_most (kind_of r)))

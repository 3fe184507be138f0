-- A trace and its records (document 02, M-110).
use Rattle.std.specs.Prelude.{ℕ, ◌+◌, ◌-◌, Bool, ◌&&◌, List, leb, eqb, length, drop}
use Rattle.words.specs.Numbers.{le32}
use Rattle.records.specs.Records.{length_of, kind_of, whole}

-- "kind 32 an argument buffer before the call, kind 33 the same after it, kind 34 a four-byte address and bytes of memory set before a call"
abbrev pub is_before : ℕ → Bool
is_before kind = eqb kind 32

abbrev pub is_after : ℕ → Bool
is_after kind = eqb kind 33

abbrev pub is_setting : ℕ → Bool
is_setting kind = eqb kind 34

abbrev pub body_of : List ℕ → List ℕ
body_of r = drop 4 r

-- "Malformed too: .. a body above 4,100 bytes"; besides a length under 2, which does not count its kind, and any kind but 32 to 34
unfoldable pub good_frame : ℕ → ℕ → Bool
good_frame length kind = (leb 2 length && leb length 4102) && (leb 32 kind && leb kind 34)

unfoldable pub is_good : List ℕ → Bool
is_good r = whole r && good_frame (length_of r) (kind_of r)

-- the address and the bytes that a 34 sets
abbrev pub address_in : List ℕ → ℕ
address_in body = le32 body 0

abbrev pub bytes_in : List ℕ → List ℕ
bytes_in body = drop 4 body

-- "a 34 body under 5, a 34 whose bytes pass the end of memory"
unfoldable pub is_settable : List ℕ → List ℕ → Bool
is_settable m body = leb 5 (length body) && leb (address_in body + (length body - 4)) (length m)

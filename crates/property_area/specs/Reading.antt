-- Reading a property work area (document 02, M-103).
use Rattle.std.specs.Prelude.{ℕ, zero, suc, ◌+◌, cond, not, List, [], ◌∷◌, ltb, eqb, length, take, drop, Result, Ok, Err}
use Rattle.words.specs.Numbers.{be32}
use Rattle.words.specs.Nul.{until_nul, is_ended}
use Rattle.words.specs.Reading.{Reading, read, refused}
use Rattle.journal.specs.Property.{name_limit}
use Rattle.node_area.specs.Head.{area_size}
use Rattle.property_area.specs.declared.reading.Refusal.{Refusal}
use Rattle.property_area.specs.declared.reading.Refusal.TheVariants.{Size, Reserved, Name, Past}
use Rattle.property_area.specs.declared.reading.Located.{Located}
use Rattle.words.specs.declared.refused.Refused.{Refused}
use Rattle.property_area.specs.Head.{reserved_at, is_reserved, count_in, first_at}
use Rattle.property_area.specs.Piece.{Piece, deletion, length_of_value}

-- 02: "The reader's: 40 not 4,096 bytes (0); 41 bytes 8 to 15 not zero (8); then at each property's offset 42 not a name with its NUL, 43 descriptor or value
-- past the end."
abbrev pub refusal_number : Refusal → ℕ
refusal_number Size = 40
refusal_number Reserved = 41
refusal_number Name = 42
refusal_number Past = 43

-- a property at a byte offset: its name, where its descriptor and its value stand, and where it ends
unfoldable pub name_at : List ℕ → ℕ → List ℕ
name_at area at = until_nul (drop at area)

abbrev pub descriptor_place : List ℕ → ℕ → ℕ
descriptor_place area at = at + length (name_at area at) + 1

abbrev pub value_place : List ℕ → ℕ → ℕ
value_place area at = descriptor_place area at + 4

abbrev pub located_at : List ℕ → ℕ → Located
located_at area at =
    let d = be32 area (descriptor_place area at) in
    record { name = at; name_length = length (name_at area at); descriptor = d; value = value_place area at; value_length = length_of_value d }

abbrev pub end_of : Located → ℕ
end_of l = l.value + l.value_length

-- 02: "42 not a name with its NUL, 43 descriptor or value past the end"
unfoldable pub judged_at : List ℕ → ℕ → Result Located Refusal
judged_at area at =
    cond (not (is_ended name_limit (drop at area))) (Err Name)
    (cond (ltb (length area) (value_place area at)) (Err Past)
    (cond (ltb (length area) (end_of (located_at area at))) (Err Past)
    (Ok (located_at area at))))

-- what a property tells: its name and its value are parts of the area
abbrev pub piece_in : List ℕ → Located → Piece
piece_in area l =
    record {
      part = record {
        name = take l.name_length (drop l.name area);
        deleted = eqb l.descriptor deletion;
        value = take l.value_length (drop l.value area);
      };
      more = ltb deletion l.descriptor;
    }

abbrev pub with_piece : Piece → Reading Piece Refusal → Reading Piece Refusal
with_piece p (read ps) = read (p ∷ ps)
with_piece p (refused r at) = refused r at

abbrev pub read_by : Result Located Refusal → ℕ → Reading Piece Refusal → Reading Piece Refusal
read_by (Ok l) at more = more
read_by (Err r) at more = refused r at

-- the next n properties from a byte offset on
unfoldable pub read_from : ℕ → List ℕ → ℕ → Reading Piece Refusal
read_from zero area at = read []
read_from (suc n) area at =
    let l = located_at area at in
    let more = with_piece (piece_in area l) (read_from n area (end_of l)) in
    read_by (judged_at area at) at more

-- Phandle and state are not judged, nor bytes after the last property.
unfoldable pub reading : List ℕ → Reading Piece Refusal
reading area =
    let found = read_from (count_in area) area first_at in
    cond (not (eqb (length area) area_size)) (refused Size 0)
    (cond (not (is_reserved area)) (refused Reserved reserved_at)
    found)

-- What a check of an area tells of its reading: the number of its properties, or the refusal.
abbrev pub check_of : Reading Piece Refusal → Result ℕ (Refused Refusal)
check_of (read ps) = Ok (length ps)
check_of (refused r at) = Err (record { refusal = r; offset = at })

-- A property as it stands in a work area (source document 001, "Return Format of Work Area for ibm,update-properties").
use Rattle.std.specs.Prelude.{ℕ, ◌-◌, Bool, cond, List, [], ◌∷◌, ◌++◌, ltb, eqb, length}
use Rattle.words.specs.Numbers.{be_bytes}

-- a property's name, and whether it is deleted or has this value
pub record Property : Type 0 where
  pub name : List ℕ
  pub deleted : Bool
  pub value : List ℕ

-- what an area tells of it: the whole, or a part of its value of which more is in a later call
pub record Piece : Type 0 where
  pub part : Property
  pub more : Bool

-- 001: "0x80000000 The property is to be deleted no value follows"
abbrev pub deletion : ℕ
deletion = 0x8000_0000

-- 001: "Other positive values are the length (M) of the immediately following property value string that completes the update of the property value.
-- Other negative values are the twos complement of the length (M) of the .. string that either starts or continues the update"
abbrev pub descriptor_of : Piece → ℕ
descriptor_of p = cond p.part.deleted deletion (cond p.more (0x1_0000_0000 - length p.part.value) (length p.part.value))

-- how many bytes of value follow a descriptor
abbrev pub length_of_value : ℕ → ℕ
length_of_value d = cond (eqb d deletion) 0 (cond (ltb d deletion) d (0x1_0000_0000 - d))

-- 001: "Null terminated string indicating the name of the updated property. followed by: Value Descriptor -- 4 Bytes .. Followed by: 0-M bytes of property
-- value string."
unfoldable pub piece_bytes : Piece → List ℕ
piece_bytes p = p.part.name ++ (0 ∷ (be_bytes 4 (descriptor_of p) ++ p.part.value))

unfoldable pub pieces_bytes : List Piece → List ℕ
pieces_bytes [] = []
pieces_bytes (p ∷ ps) = piece_bytes p ++ pieces_bytes ps

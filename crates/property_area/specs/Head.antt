-- The layout of a property work area in front of its properties (document 02, M-103; source document 001, "ibm,update-properties RTAS Call").
use Rattle.std.specs.Prelude.{ℕ, Bool, List, [], ◌∷◌}
use Rattle.std.proofs.Math.Seq.{slice}
use Rattle.words.specs.Numbers.{be32, word_bytes, zeros}

-- 02: "The phandle and then the state variable head the area", 001: "phandle of updated node containing updated properties to be reported (4 bytes)"
abbrev pub phandle_in : List ℕ → ℕ
phandle_in area = be32 area 0

abbrev pub state_in : List ℕ → ℕ
state_in area = be32 area 4

-- 001: "8 bytes of 0x00 (reserved)"; 02: "bytes 8 to 15"
abbrev pub reserved_at : ℕ
reserved_at = 8

unfoldable pub is_reserved : List ℕ → Bool
is_reserved area = zeros (slice reserved_at 16 area)

-- 02: "the first sixteen bytes carry the session on"
abbrev pub head_words : ℕ → ℕ → List ℕ
head_words phandle state = phandle ∷ state ∷ 0 ∷ 0 ∷ []

abbrev pub carried_head : ℕ → ℕ → List ℕ
carried_head phandle state = word_bytes (head_words phandle state)

-- 001: "Number of properties reported in the work area", "4 Bytes"
abbrev pub count_in : List ℕ → ℕ
count_in area = be32 area 16

-- where the first property stands
abbrev pub first_at : ℕ
first_at = 20

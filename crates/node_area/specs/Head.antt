-- The layout of a node work area in front of its operators, and its size (document 01, "update-nodes").
use Rattle.std.specs.Prelude.{ℕ, ◌/◌, ◌%◌, Bool, cond, List, [], ◌∷◌, eqb, take}
use Rattle.std.proofs.Math.Seq.{slice}
use Rattle.words.specs.Numbers.{be32, be64, word_bytes, zeros}
use Rattle.journal.specs.declared.scope.Units.{Units}
use Rattle.journal.specs.declared.scope.Units.TheVariants.{All, One}

-- 01: "For update-nodes, the work area is the 4,096 bytes of partition memory that start at the given address"
abbrev pub area_size : ℕ
area_size = 4096

-- 01: "the sixteen bytes carried from one answered call to the next"
abbrev pub head_size : ℕ
head_size = 16

abbrev pub head_of : List ℕ → List ℕ
head_of area = take head_size area

-- the address that stands behind the state: 0 where all units are asked for
abbrev pub address_of : Units → ℕ
address_of All = 0
address_of (One unit) = unit

-- 01: "new state (0 when nothing remains), twelve zero bytes"; 02, M-100: "In scope 3 the first call carries state 0, unit address
-- (eight bytes, big-endian) and four zero bytes", "a continuation must name its unit, so we return the address there".
abbrev pub head_words : Units → ℕ → List ℕ
head_words units state = state ∷ (address_of units / 0x1_0000_0000) ∷ (address_of units % 0x1_0000_0000) ∷ 0 ∷ []

abbrev pub carried_head : Units → ℕ → List ℕ
carried_head units state = word_bytes (head_words units state)

-- 01: "It counts operations already reported."
abbrev pub state_in : List ℕ → ℕ
state_in area = be32 area 0

-- the unit address, in scope 3
abbrev pub unit_in : List ℕ → ℕ
unit_in area = be64 area 4

-- 01: "bytes 4 to 15 of the area zero"; 02, M-100: "in scope 3 only bytes 12 to 15 are tested for zero"
abbrev pub reserved_from : ℕ → ℕ
reserved_from scope = cond (eqb scope 3) 12 4

unfoldable pub is_reserved : ℕ → List ℕ → Bool
is_reserved scope area = zeros (slice (reserved_from scope) head_size area)

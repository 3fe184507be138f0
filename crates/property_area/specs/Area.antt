-- The bytes of an area.
use Rattle.std.specs.Prelude.{ℕ, List, ◌++◌, length, drop}
use Rattle.words.specs.Numbers.{be_bytes}
use Rattle.property_area.specs.Head.{carried_head}
use Rattle.property_area.specs.Piece.{Piece, pieces_bytes}

-- the bytes of an area with these properties: the sixteen that are carried, the number of properties, and they themselves
unfoldable pub answer : ℕ → ℕ → List Piece → List ℕ
answer phandle state ps = carried_head phandle state ++ (be_bytes 4 (length ps) ++ pieces_bytes ps)

-- 02: "later bytes stay"
unfoldable pub written : List ℕ → ℕ → ℕ → List Piece → List ℕ
written area phandle state ps = answer phandle state ps ++ drop (length (answer phandle state ps)) area

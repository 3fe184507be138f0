-- Terms of contracts inside the crate.
use Rattle.std.specs.Prelude.{ℕ, zero, suc, List, [], ◌++◌}
use Rattle.property_area.specs.Piece.{Piece}
use Rattle.properties.specs.Changes.{Change}
use Rattle.properties.specs.Filling.{area_room, fill}

unfoldable pub handed_out : ℕ → List Change → List Piece
handed_out zero cs = []
handed_out (suc n) cs = (fill area_room cs).pieces ++ handed_out n (fill area_room cs).due

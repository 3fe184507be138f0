-- The lines of the operations that a cursor has before it.
use mathlib.Core.Path.{◌≡◌}
use mathlib.Core.List.{List, [], ◌∷◌, ◌++◌}
use Prim.Native.Nat.{ℕ, ◌<◌}
use native.Mathlib.Omega.{arith}
use lib.ListN.{length}
use Rattle.journal.specs.declared.operation.Operation.{Operation}
use Rattle.node_area.specs.declared.reading.Cursor.{Cursor}
use Rattle.std.specs.Prelude.{Some, None}
use Rattle.node_area.specs.Claims.Cursor.{remaining, next_of}
use Rattle.node_area.proofs.Steps.{steps_give}
use Rattle.print_nodes.specs.Text.{line, lines}

module _ (area : List ℕ) (at : Cursor) where
  pub lines_end : next_of area at ≡ None → lines (remaining area at) ≡ []
  unfolding lines
  lines_end e = let none : remaining area at ≡ [] = rw e at (steps_give area at) in rw none

  module _ (o : Operation) (behind : Cursor) (e : next_of area at ≡ Some (o, behind)) where
    step : remaining area at ≡ o ∷ remaining area behind
    step = rw e at (steps_give area at)

    pub lines_entry : lines (remaining area at) ≡ line o ++ lines (remaining area behind)
    unfolding lines
    lines_entry = rw step

    pub fewer : length (remaining area behind) < length (remaining area at)
    fewer = rw step (omega arith)

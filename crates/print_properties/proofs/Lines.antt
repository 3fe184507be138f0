-- The lines of the properties that a cursor has before it.
use mathlib.Core.Path.{◌≡◌, ap}
use mathlib.Core.Bool.{Bool, true, false, cond}
use mathlib.Core.List.{List, [], ◌∷◌, ◌++◌}
use Prim.Native.Nat.{ℕ, ◌+◌, ◌-◌, ◌<◌, ◌≤◌}
use native.Mathlib.Omega.{arith}
use lib.Dec.{eqb}
use lib.ListN.{length}
use Rattle.std.specs.Prelude.{Result, Ok, Err}
use Rattle.property_area.specs.declared.reading.Located.{Located}
use Rattle.property_area.specs.declared.reading.Refusal.{Refusal}
use Rattle.property_area.specs.declared.reading.Cursor.{Cursor}
use Rattle.std.specs.Prelude.{Some, None}
use Rattle.property_area.specs.Reading.{located_at, end_of, judged_at, piece_in}
use Rattle.property_area.specs.Claims.Cursor.{remaining, step_by, next_of}
use Rattle.property_area.proofs.Judging.{fine_told}
use Rattle.property_area.proofs.PropertyLaws.{steps_give}
use Rattle.print_properties.specs.Text.{line, lines}
use Rattle.print_properties.specs.Inner.Put.{Inside}

module _ (area : List ℕ) (at : Cursor) where
  pub lines_end : next_of area at ≡ None → lines (remaining area at) ≡ []
  unfolding lines
  lines_end e = let none : remaining area at ≡ [] = rw e at (steps_give area at) in rw none

  module _ (l : Located) (behind : Cursor) (e : next_of area at ≡ Some (l, behind)) where
    step : remaining area at ≡ piece_in area l ∷ remaining area behind
    step = rw e at (steps_give area at)

    pub lines_found : lines (remaining area at) ≡ line (piece_in area l) ++ lines (remaining area behind)
    unfolding lines
    lines_found = rw step

    pub fewer : length (remaining area behind) < length (remaining area at)
    fewer = rw step (omega arith)

    fine : judged_at area at.at ≡ Ok l
    unfolding next_of
    fine = go (eqb at.left 0) (judged_at area at.at) e
      where
        go : (b : Bool) (j : Result Located Refusal) → cond b None (step_by j (at.left - 1)) ≡ Some (l, behind) → j ≡ Ok l
        go true j h = cc
        go false (Err r) h = cc
        go false (Ok m) h =
            let same : ◌≡◌ {A = Located × Cursor} (m, record { at = end_of m; left = at.left - 1 }) (l, behind) = cc in
            ap (λ (p : Located × Cursor). Ok p.0) same

    -- what is found stands in the area
    pub found_inside : Inside l (length area)
    found_inside =
        let told = fine_told area at.at l fine in
        let order : (m : Located) → m ≡ located_at area at.at → m.name + m.name_length ≤ m.value = λ m same. rw same (omega arith) in
        (order l told.0, told.1)

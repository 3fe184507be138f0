-- The lines of the entries that a cursor has before it, and one of them by its place in an area.
use mathlib.Core.Path.{◌≡◌, refl, sym, subst, ap}
use mathlib.Core.Bool.{Bool, true, false, cond, ◌||◌}
use mathlib.Core.List.{List, [], ◌∷◌, ◌++◌}
use Prim.Native.Nat.{ℕ, ◌+◌, ◌-◌, ◌<◌, ◌≤◌, min}
use native.Mathlib.Omega.{arith}
use lib.Dec.{ltb, eqb}
use lib.ListN.{length, take, drop, length-take, length-drop}
use borrow.Author.Tests.{ltb-false}
use Rattle.words.specs.Numbers.{be32}
use Rattle.words.specs.Nul.{until_nul}
use Rattle.words.proofs.Choice.{choose}
use Rattle.indices.specs.declared.reading.Cursor.{Cursor}
use Rattle.indices.specs.declared.reading.Set.{Set}
use Rattle.std.specs.Prelude.{Option, None, Some}
use Rattle.indices.specs.Reading.{length_at, field_at}
use Rattle.indices.specs.Cursor.{entry_in, remaining, next_of}
use Rattle.indices.proofs.IndexLaws.{steps_give}
use Rattle.printing.specs.declared.put.Text.{Text}
use Rattle.printing.specs.Put.{Put}
use Rattle.printing.specs.Text.{space, named}
use Rattle.print_indices.specs.Text.{line, lines}

-- a code is no longer than its field, and ends inside the area
until_short : (f : List ℕ) → length (until_nul f) ≤ length f
unfolding until_nul
until_short [] = omega arith
until_short (b ∷ bs) = choose (eqb b 0) (λ (l : List ℕ). length l ≤ length (b ∷ bs)) (λ _. omega arith) (λ _. omega (arith, until_short bs))

pub code_size : (area : List ℕ) (at : ℕ) → length (until_nul (field_at area at)) ≤ min (length_at area at) (length area - (at + 8))
unfolding field_at
code_size area at =
    let n = length_at area at in
    omega (arith, until_short (take n (drop (at + 8) area)), length-take n (drop (at + 8) area), length-drop (at + 8) area)

-- the set of a step, or another where there is none
abbrev set_or : Set → Option (Set × Cursor) → Set
set_or other None = other
set_or other (Some (s, c)) = s

module _ (area : List ℕ) (at : Cursor) where
  pub lines_end : next_of area at ≡ None → lines (remaining area at) ≡ []
  unfolding lines
  lines_end e = let none : remaining area at ≡ [] = rw e at (steps_give area at) in rw none

  module _ (s : Set) (after : Cursor) (e : next_of area at ≡ Some (s, after)) where
    step : remaining area at ≡ entry_in area s ∷ remaining area after
    step = rw e at (steps_give area at)

    pub lines_found : lines (remaining area at) ≡ line (entry_in area s) ++ lines (remaining area after)
    unfolding lines
    lines_found = rw step

    pub fewer : length (remaining area after) < length (remaining area at)
    fewer = rw step (omega arith)

    -- what is found stands in the area
    pub found_inside : s.start + s.length ≤ length area
    unfolding next_of
    found_inside = go (eqb at.left 0) (ltb (length area - at.at) 8) refl e
      where
        set : Set
        set = record { index = be32 area at.at; start = at.at + 8; length = length (until_nul (field_at area at.at)) }

        rest : Cursor
        rest = record { at = at.at + (8 + length_at area at.at); left = at.left - 1 }

        go : (b d : Bool) → ltb (length area - at.at) 8 ≡ d → cond {A = Option (Set × Cursor)} (b || d) None (Some (set, rest)) ≡ Some (s, after) → s.start + s.length ≤ length area
        go true d g h = absurd (let z : ◌≡◌ {A = ℕ} 0 1 = cc in omega arith)
        go false true g h = absurd (let z : ◌≡◌ {A = ℕ} 0 1 = cc in omega arith)
        go false false g h =
            let same : set ≡ s = ap (set_or set) h in
            rw (← same) (omega (arith, ltb-false (length area - at.at) 8 g, code_size area at.at))

-- ---- a code as a part of an area: from a to a + n it has n bytes

module _ (area : List ℕ) (s : Set) where
  abbrev cut_out : List ℕ
  cut_out = take (s.start + s.length - s.start) (drop s.start area)

  same : cut_out ≡ (entry_in area s).code
  same = let n : s.start + s.length - s.start ≡ s.length = omega arith in rw n

  pub code_fits : {room : ℕ} (at : ℕ) → at + length (named space (entry_in area s).code) ≤ room → at + length (named space cut_out) ≤ room
  code_fits {room} at h = subst (λ (code : List ℕ). at + length (named space code) ≤ room) (sym same) h

  pub code_put : {before after : Text} → Put before after (named space cut_out)
      → Put before after (named space (entry_in area s).code)
  code_put {before} {after} h = subst (λ (code : List ℕ). Put before after (named space code)) same h

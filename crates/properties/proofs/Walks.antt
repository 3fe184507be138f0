-- The walk's boundaries are the offsets of what is due after each area.
use mathlib.Core.Path.{◌≡◌, refl, ◌∙◌}
use mathlib.Core.List.{List, [], ◌∷◌, ◌++◌}
use Prim.Native.Nat.{ℕ, ◌-◌, ◌≤◌, ◌<◌}
use native.Mathlib.Omega.{arith}
use lib.ListN.{length, drop, length-drop}
use Rattle.property_area.specs.Piece.{Piece}
use Rattle.properties.specs.Changes.{Change, stop, from}
use Rattle.properties.specs.Filling.{area_room, header, whole}
use Rattle.properties.specs.Session.{cuts, room_behind, boundaries}
use Rattle.properties.proofs.Placing.{Placed}
use Rattle.properties.proofs.Fills.{Fills, none, goes, splits, waits}
use Rattle.properties.proofs.Cuts.{cuts_next, room_next, goes_whole, goes_part, goes_later}

-- the boundary at what is due, and those behind it
unfoldable pub onward : List Change → List ℕ
onward [] = []
onward (c ∷ cs) = c.at ∷ boundaries area_room (c ∷ cs)

-- the boundaries from a value of l bytes at the offset v on, of which r have room in the area in which its change begins
abbrev through : ℕ → ℕ → ℕ → ℕ → List Change → List ℕ
through h r v l cs = cuts (area_room - h) r v l ++ boundaries (room_behind (area_room - h) r l) cs

bounds_none : (room : ℕ) → boundaries room [] ≡ []
unfolding boundaries
bounds_none room = refl

module _ (room : ℕ) (c : Change) (cs : List Change) where
  bounds_whole : whole c ≤ room → boundaries room (c ∷ cs) ≡ boundaries (room - whole c) cs
  unfolding boundaries
  bounds_whole k = let g = goes_whole room (header c) c.at c.start (length c.value) k in rw (g.0, g.1)

  bounds_part : header c < room → boundaries room (c ∷ cs) ≡ through (header c) (room - header c) c.start (length c.value) cs
  unfolding boundaries
  bounds_part k = let g = goes_part room (header c) c.at c.start (length c.value) k in rw (g.0, g.1)

  bounds_later : room ≤ header c → room < whole c → boundaries room (c ∷ cs) ≡ c.at ∷ through (header c) (area_room - header c) c.start (length c.value) cs
  unfolding boundaries
  bounds_later k n = let g = goes_later room (header c) c.at c.start (length c.value) k n in rw (g.0, g.1)

-- names are short, so that every change begins in a fresh area
pub fills_walk : {room : ℕ} {cs es : List Change} {ps : List Piece} (lo hi : ℕ) → Fills room cs ps es → Placed lo hi cs → boundaries room cs ≡ onward es
unfolding onward
fills_walk {room} lo hi none p = bounds_none room
fills_walk lo hi (goes {room = room} {c = c} {cs = cs} h f) p = bounds_whole room c cs h ∙ fills_walk (stop c) hi f p.2
fills_walk lo hi (splits {room = room} {c = c} {cs = cs} s e h g) p =
    let f = area_room - header c in
    let r = room - header c in
    let n = length c.value in
    let k : 0 < f = omega (arith, p.1.short) in
    let l : r < n = omega arith in
    let d : length (drop (s - c.start) c.value) ≡ n - r = omega (arith, length-drop (s - c.start) c.value) in
    let fresh = bounds_part area_room (from s c) cs (omega arith) in
    bounds_part room c cs h ∙ rw (cuts_next f r c.start n k l, room_next f r n k l, fresh, d, e)
fills_walk lo hi (waits {room = room} {c = c} {cs = cs} h g) p = bounds_later room c cs h g ∙ rw (bounds_part area_room c cs (omega (arith, p.1.short)))

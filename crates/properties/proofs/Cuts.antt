-- Where one change is divided, on numbers: from cut to cut of its value, and by how it goes into the room that is left.
use mathlib.Core.Path.{◌≡◌, refl, ◌∙◌}
use mathlib.Core.Bool.{true, or-true}
use mathlib.Core.List.{List, [], ◌∷◌, ◌++◌}
use Prim.Native.Nat.{ℕ, zero, suc, ◌+◌, ◌-◌, ◌≤◌, ◌<◌}
use native.Mathlib.Omega.{arith}
use native.Mathlib.Numerals.{unary_clauses}
use lib.Dec.{leb}
use borrow.Author.Tests.{le-leb, lt-leb, lt-ltb, le-ltb}
use Rattle.properties.specs.Filling.{area_room}
use Rattle.properties.specs.Session.{cuts, room_behind, begins, value_room, stops, room_after}

-- ---- a value: it fits what room is left for it, or is divided there and goes on as in a fresh area

pub cuts_fit : (f r v l : ℕ) → l ≤ r → cuts f r v l ≡ []
unfolding cuts
cuts_fit f r v zero h = refl
cuts_fit f zero v (suc l) h = absurd (omega arith)
cuts_fit f (suc r) v (suc l) h = cuts_fit f r (suc v) l (omega arith)

pub room_fit : (f r l : ℕ) → l ≤ r → room_behind f r l ≡ r - l
unfolding room_behind
room_fit f r zero h = omega arith
room_fit f zero (suc l) h = absurd (omega arith)
room_fit f (suc r) (suc l) h = room_fit f r l (omega arith) ∙ omega arith

pub cuts_next : (f r v l : ℕ) → 0 < f → r < l → cuts f r v l ≡ (v + r) ∷ cuts f f (v + r) (l - r)
unfolding cuts
cuts_next f r v zero k h = absurd (omega arith)
cuts_next zero zero v (suc l) k h = absurd (omega arith)
cuts_next (suc f) zero v (suc l) k h = simp unary_clauses
cuts_next f (suc r) v (suc l) k h =
    let e : suc v + r ≡ v + suc r = omega arith in
    let d : suc l - suc r ≡ l - r = omega arith in
    rw (cuts_next f r (suc v) l k (omega arith), e, d)

pub room_next : (f r l : ℕ) → 0 < f → r < l → room_behind f r l ≡ room_behind f f (l - r)
unfolding room_behind
room_next f r zero k h = absurd (omega arith)
room_next zero zero (suc l) k h = absurd (omega arith)
room_next (suc f) zero (suc l) k h = simp unary_clauses
room_next f (suc r) (suc l) k h = let d : suc l - suc r ≡ l - r = omega arith in rw d (room_next f r l k (omega arith))

-- ---- a change: it goes whole, begins with a part of its value, or waits for a fresh area

module _ (room h at v l : ℕ) where
  -- its stops are these, and then the cuts of its value, of which r bytes have room in the area in which it begins
  abbrev Stops : List ℕ → ℕ → Type 0
  Stops first r = (stops room h at v l ≡ first ++ cuts (area_room - h) r v l) × (room_after room h l ≡ room_behind (area_room - h) r l)

  begun : begins room h l ≡ true → Stops [] (room - h)
  unfolding stops room_after value_room
  begun e = rw e (refl, refl)

  pub goes_whole : h + l ≤ room → (stops room h at v l ≡ []) × (room_after room h l ≡ room - (h + l))
  unfolding begins
  goes_whole k =
      let b = begun (rw (le-leb (h + l) room k)) in
      (b.0 ∙ cuts_fit (area_room - h) (room - h) v l (omega arith), b.1 ∙ room_fit (area_room - h) (room - h) l (omega arith) ∙ omega arith)

  pub goes_part : h < room → Stops [] (room - h)
  unfolding begins
  goes_part k = begun (rw (lt-ltb h room k) (or-true (leb (h + l) room)))

  pub goes_later : room ≤ h → room < h + l → Stops (at ∷ []) (area_room - h)
  unfolding begins stops room_after value_room
  goes_later k g = rw (lt-leb (h + l) room g, le-ltb h room k) (refl, refl)

-- One area: how it is filled, and what that leaves due. Each law goes by the four ways of filling and opens no test.
use mathlib.Core.Path.{◌≡◌, refl}
use mathlib.Core.Bool.{true, false, false≢true}
use mathlib.Core.List.{List, [], ◌∷◌}
use Prim.Native.Nat.{ℕ, ◌+◌, ◌-◌, ◌≤◌, ◌<◌}
use native.Mathlib.Omega.{arith}
use lib.Dec.{leb, ltb}
use borrow.Author.Tests.{leb-true, leb-false, ltb-true, ltb-false}
use lib.ListN.{length, length-take, length-drop}
use Rattle.words.proofs.Choice.{choose}
use Rattle.property_area.specs.Piece.{Piece}
use Rattle.properties.specs.Changes.{Change, property, properties, stop, before, from, is_due, offset_or}
use Rattle.properties.specs.Filling.{area_room, header, whole, Filled, fill, weight, parts}
use Rattle.properties.proofs.Placing.{Placed, placed_lower, placed_behind, placed_from}

-- nothing is due, the first change goes whole, it is divided, or it waits for the next area
pub data Fills : ℕ → List Change → List Piece → List Change → Type 0 where
  none : {room : ℕ} → Fills room [] [] []
  goes : {room : ℕ} {c : Change} {cs es : List Change} {ps : List Piece}
      → whole c ≤ room → Fills (room - whole c) cs ps es → Fills room (c ∷ cs) (record { part = property c; more = false } ∷ ps) es
  splits : {room : ℕ} {c : Change} {cs : List Change} (s : ℕ)
      → s ≡ c.start + (room - header c) → header c < room → room < whole c
      → Fills room (c ∷ cs) (record { part = before s c; more = true } ∷ []) (from s c ∷ cs)
  waits : {room : ℕ} {c : Change} {cs : List Change} → room ≤ header c → room < whole c → Fills room (c ∷ cs) [] (c ∷ cs)

pub fill_is : (room : ℕ) (cs : List Change) → Fills room cs (fill room cs).pieces (fill room cs).due
unfolding fill
fill_is room [] = none
fill_is room (c ∷ cs) =
    let Is : Filled → Type 0 = λ f. Fills room (c ∷ cs) f.pieces f.due in
    choose (leb (whole c) room) Is
    (λ e. goes (leb-true _ _ e) (fill_is (room - whole c) cs))
    (λ e. choose (ltb (header c) room) Is
    (λ g. splits _ refl (ltb-true _ _ g) (leb-false _ _ e))
    (λ g. waits (ltb-false _ _ g) (leb-false _ _ e)))

-- ---- what is due after an area

pub placed_due : {room : ℕ} {cs es : List Change} {ps : List Piece} (lo hi : ℕ) → Fills room cs ps es → Placed lo hi cs → Placed lo hi es
placed_due lo hi none p = p
placed_due lo hi (goes {c = c} {es = es} h f) p = placed_lower (stop c) lo hi es (omega (arith, p.0, p.1.long)) (placed_due (stop c) hi f p.2)
placed_due lo hi (splits {c = c} {cs = cs} s e h g) p = placed_from lo hi s c cs (omega arith) (omega arith) p
placed_due lo hi (waits h g) p = p

pub due_behind : {room : ℕ} {cs es : List Change} {ps : List Piece} (lo hi : ℕ) → Fills room cs ps es → Placed lo hi cs → lo ≤ offset_or hi es
due_behind {es = es} lo hi f p = placed_behind lo hi es (placed_due lo hi f p)

-- a fresh area always goes on: it hands something out, and what is due moves up
pub fills_gives : {cs es : List Change} {ps : List Piece} (lo hi : ℕ) → Fills area_room cs ps es → Placed lo hi cs → is_due cs ≡ true → 0 < length ps
fills_gives lo hi none p d = absurd (false≢true d)
fills_gives lo hi (goes h f) p d = omega arith
fills_gives lo hi (splits s e h g) p d = omega arith
fills_gives lo hi (waits h g) p d = absurd (omega (arith, p.1.short))

pub fills_rises : {cs es : List Change} {ps : List Piece} (lo hi : ℕ) → Fills area_room cs ps es → Placed lo hi cs → is_due cs ≡ true → offset_or hi cs < offset_or hi es
fills_rises lo hi none p d = absurd (false≢true d)
fills_rises lo hi (goes {c = c} h f) p d = omega (arith, p.1.long, due_behind (stop c) hi f p.2)
fills_rises lo hi (splits s e h g) p d = omega (arith, p.1.inside)
fills_rises lo hi (waits h g) p d = absurd (omega (arith, p.1.short))

-- ---- bytes

-- what is handed out fits
pub fills_fit : {room : ℕ} {cs es : List Change} {ps : List Piece} → Fills room cs ps es → weight (parts ps) ≤ room
unfolding weight parts
fills_fit none = omega arith
fills_fit (goes h f) = omega (arith, fills_fit f)
fills_fit (splits {c = c} s e h g) = omega (arith, length-take (s - c.start) c.value)
fills_fit (waits h g) = omega arith

-- Where something is left, the weight of what is due falls by all but 36 bytes of the room: a name that is repeated counts with what is due.
pub fills_weight : {room : ℕ} {cs es : List Change} {ps : List Piece} (lo hi : ℕ) → Fills room cs ps es → Placed lo hi cs → is_due es ≡ true
    → room + weight (properties es) ≤ weight (properties cs) + 36
unfolding weight properties
fills_weight lo hi none p d = absurd (false≢true d)
fills_weight lo hi (goes {c = c} h f) p d = omega (arith, fills_weight (stop c) hi f p.2 d)
fills_weight lo hi (splits {c = c} s e h g) p d = omega (arith, p.1.short, length-drop (s - c.start) c.value)
fills_weight lo hi (waits h g) p d = omega (arith, p.1.short)

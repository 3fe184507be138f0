-- The walk over one change, for the code: what is found so far, and what remains, give what the whole gives.
use mathlib.Core.Path.{◌≡◌, refl, sym, ◌∙◌}
use mathlib.Core.Bool.{Bool, true, false, ◌||◌, or-true, or-false}
use Prim.Native.Nat.{ℕ, ◌+◌, ◌-◌, ◌≤◌, ◌<◌}
use native.Mathlib.Omega.{arith}
use lib.Dec.{eqb}
use borrow.Author.Tests.{eq-eqb, ne_eqb}
use Rattle.std.specs.Prelude.{Some}
use Rattle.properties.specs.declared.walk.Extent.{Extent}
use Rattle.properties.specs.declared.walk.Walk.{Walk}
use Rattle.properties.specs.Filling.{area_room}
use Rattle.properties.specs.Session.{cuts, room_behind, stops, room_after, member}
use Rattle.properties.specs.Inner.Following.{walked_over}
use Rattle.properties.proofs.Cuts.{cuts_fit, room_fit, cuts_next, room_next, goes_whole, goes_part, goes_later}

-- ---- through a value from cut to cut: r bytes have room, l are left from the offset v on

pub record Going (f room start length s r v l : ℕ) (found : Bool) : Type 0 where
  pub sum : v + l ≡ start + length
  pub rooms : room_behind f r l ≡ room_behind f room length
  pub finds : (found || member s (cuts f r v l)) ≡ member s (cuts f room start length)

module _ (f room start length s r v l : ℕ) (b : Bool) (g : Going f room start length s r v l b) where
  -- behind the next cut, where t says whether the state was found so far
  going_next : 0 < f → r < l → (t : Bool) → (let m = member s (cuts f f (v + r) (l - r)) in (t || m) ≡ (b || (eqb s (v + r) || m)))
      → Going f room start length s f (v + r) (l - r) t
  unfolding member
  going_next k h t e = record {
    sum = omega (arith, g.sum);
    rooms = sym (room_next f r l k h) ∙ g.rooms;
    finds = e ∙ (rw (cuts_next f r v l k h) at g.finds);
  }

  pub going_hit : 0 < f → r < l → v + r ≡ s → Going f room start length s f (v + r) (l - r) true
  going_hit k h e = going_next k h true (rw (eq-eqb s (v + r) (sym e)) (sym (or-true b)))

  pub going_miss : 0 < f → r < l → (v + r ≡ s → ⊥) → Going f room start length s f (v + r) (l - r) b
  going_miss k h e = going_next k h b (rw (ne_eqb s (v + r) (λ q. e (sym q))))

  -- the rest fits
  pub going_end : l ≤ r → (r - l ≡ room_behind f room length) × (b ≡ member s (cuts f room start length))
  unfolding member
  going_end h = (sym (room_fit f r l h) ∙ g.rooms, sym (or-false b) ∙ (rw (cuts_fit f r v l h) at g.finds))

-- ---- over a change: the room x behind it, and whether s is one of its stops

module _ (room h at v l s x : ℕ) (b : Bool) where
  -- what the code has of its value, of which r bytes have room in the area in which it begins
  abbrev Through : ℕ → Type 0
  Through r = (x ≡ room_behind (area_room - h) r l) × (b ≡ member s (cuts (area_room - h) r v l))

  abbrev Over : Bool → Type 0
  Over found = (x ≡ room_after room h l) × (found ≡ member s (stops room h at v l))

  -- it begins with a part of its value; or it waits, and its record's offset is a stop too
  pub over_part : h < room → Through (room - h) → Over b
  over_part k g = let p = goes_part room h at v l k in rw (p.0, p.1) g

  module _ (k : room ≤ h) (n : room < h + l) (g : Through (area_room - h)) where
    pub over_hit : at ≡ s → Over true
    unfolding member
    over_hit q = let p = goes_later room h at v l k n in rw (p.0, p.1, eq-eqb s at (sym q)) (g.0, refl)

    pub over_miss : (at ≡ s → ⊥) → Over b
    unfolding member
    over_miss q = let p = goes_later room h at v l k n in rw (p.0, p.1, ne_eqb s at (λ e. q (sym e))) g

-- ---- the walk behind it, by what the code makes: it went whole, and no area ended; an area ended in it at the state; or none did

module _ (w : Walk) (e : Extent) (s : ℕ) where
  pub walked_whole : e.header + e.length ≤ w.room
      → record { room = w.room - (e.header + e.length); any = true; place = w.place } ≡ walked_over w e s
  unfolding walked_over member
  walked_whole k = let p = goes_whole w.room e.header e.at e.start e.length k in rw (p.0, p.1)

  module _ (x : ℕ) (b : Bool) (g : Over w.room e.header e.at e.start e.length s x b b) where
    pub walked_hit : b ≡ true → record { room = x; any = true; place = Some e.at } ≡ walked_over w e s
    unfolding walked_over
    walked_hit t = rw (g.0, ← g.1, t)

    pub walked_miss : b ≡ false → record { room = x; any = true; place = w.place } ≡ walked_over w e s
    unfolding walked_over
    walked_miss t = rw (g.0, ← g.1, t)

-- Area after area: what n of them leave due and hand out. By `offset_or hi` the offset of what is due, and the upper one at the end, are told in one law.
use mathlib.Core.Path.{◌≡◌, refl, sym, ap, ◌∙◌}
use mathlib.Core.Bool.{true}
use mathlib.Core.List.{List, [], ◌∷◌, ◌++◌, append_assoc, append-nil}
use Prim.Native.Nat.{ℕ, zero, suc, ◌+◌, ◌*◌, ◌≤◌, ◌<◌}
use native.Mathlib.Omega.{arith}
use lib.Dec.{ltb, leb-suc-suc}
use borrow.Author.Tests.{lt-ltb, le-ltb}
use lib.ListN.{length, get_or}
use Rattle.properties.specs.Changes.{Change, properties, up_to, due_at, is_due, offset_or}
use Rattle.properties.specs.Filling.{area_room, fill, joined, weight}
use Rattle.properties.specs.Session.{after, boundaries}
use Rattle.properties.specs.Inner.Terms.{handed_out}
use Rattle.properties.proofs.Placing.{Placed}
use Rattle.properties.proofs.Fills.{fill_is, placed_due, fills_rises, fills_weight}
use Rattle.properties.proofs.Offsets.{up_to_first, due_first}
use Rattle.properties.proofs.Joins.{fills_joined, fills_due}
use Rattle.properties.proofs.Walks.{onward, fills_walk}

-- what is due after one area
abbrev pub rest : List Change → List Change
rest cs = (fill area_room cs).due

-- after the end nothing is due, so that something was due before an area after which something is
pub after_nil : (n : ℕ) → after n [] ≡ []
unfolding after fill
after_nil zero = refl
after_nil (suc n) = after_nil n

pub was_due : (n : ℕ) (cs : List Change) → is_due (after n cs) ≡ true → is_due cs ≡ true
was_due n [] d = sym (ap is_due (after_nil n)) ∙ d
was_due n (c ∷ cs) d = refl

-- one area more, at the end
pub after_last : (n : ℕ) (cs : List Change) → after (suc n) cs ≡ rest (after n cs)
unfolding after
after_last zero cs = refl
after_last (suc n) cs = after_last n (rest cs)

pub handed_last : (n : ℕ) (cs : List Change) → handed_out (suc n) cs ≡ handed_out n cs ++ (fill area_room (after n cs)).pieces
unfolding after handed_out
handed_last zero cs = append-nil _
handed_last (suc n) cs = rw (append_assoc (fill area_room cs).pieces (handed_out n (rest cs)) (fill area_room (after n (rest cs))).pieces, ← handed_last n (rest cs))

module _ (lo hi : ℕ) where
  pub placed_rest : (cs : List Change) → Placed lo hi cs → Placed lo hi (rest cs)
  placed_rest cs p = placed_due lo hi (fill_is area_room cs) p

  pub placed_after : (n : ℕ) (cs : List Change) → Placed lo hi cs → Placed lo hi (after n cs)
  unfolding after
  placed_after zero cs p = p
  placed_after (suc n) cs p = placed_after n (rest cs) (placed_rest cs p)

  -- ---- what is due moves up

  rest_rises : (cs : List Change) → Placed lo hi cs → is_due cs ≡ true → offset_or hi cs < offset_or hi (rest cs)
  rest_rises cs p d = fills_rises lo hi (fill_is area_room cs) p d

  rest_up : (cs : List Change) → Placed lo hi cs → offset_or hi cs ≤ offset_or hi (rest cs)
  unfolding fill
  rest_up [] p = omega arith
  rest_up (c ∷ cs) p = omega (arith, rest_rises (c ∷ cs) p refl)

  after_up : (n : ℕ) (cs : List Change) → Placed lo hi cs → offset_or hi cs ≤ offset_or hi (after n cs)
  unfolding after
  after_up zero cs p = omega arith
  after_up (suc n) cs p = omega (arith, rest_up cs p, after_up n (rest cs) (placed_rest cs p))

  pub after_rises : (m n : ℕ) (cs : List Change) → Placed lo hi cs → m < n → is_due (after n cs) ≡ true → offset_or hi (after m cs) < offset_or hi (after n cs)
  unfolding after
  after_rises m zero cs p h d = absurd (omega arith)
  after_rises zero (suc n) cs p h d = omega (arith, rest_rises cs p (was_due (suc n) cs d), after_up n (rest cs) (placed_rest cs p))
  after_rises (suc m) (suc n) cs p h d = after_rises m n (rest cs) (placed_rest cs p) (omega arith) d

  -- ---- what was handed out and what is due, by its offset

  pub handed_is : (n : ℕ) (cs : List Change) → Placed lo hi cs → joined (handed_out n cs) ≡ up_to (offset_or hi (after n cs)) cs
  unfolding after handed_out joined
  handed_is zero cs p = sym (up_to_first hi cs)
  handed_is (suc n) cs p =
      let q = placed_rest cs p in
      fills_joined lo hi (offset_or hi (after n (rest cs))) (handed_out n (rest cs)) (fill_is area_room cs) p (after_up n (rest cs) q) (handed_is n (rest cs) q)

  pub due_is : (n : ℕ) (cs : List Change) → Placed lo hi cs → due_at (offset_or hi (after n cs)) cs ≡ after n cs
  unfolding after
  due_is zero cs p = due_first hi cs
  due_is (suc n) cs p =
      let q = placed_rest cs p in
      fills_due lo hi (offset_or hi (after n (rest cs))) (fill_is area_room cs) p (after_up n (rest cs) q) ∙ due_is n (rest cs) q

  -- its weight falls by 4,040 with each area after which something is due: the room but for 36 bytes
  pub weight_falls : (n : ℕ) (cs : List Change) → Placed lo hi cs → is_due (after n cs) ≡ true → 4040 * n + weight (properties (after n cs)) ≤ weight (properties cs)
  unfolding after
  weight_falls zero cs p d = omega arith
  weight_falls (suc n) cs p d = omega (arith, fills_weight lo hi (fill_is area_room cs) p (was_due n (rest cs) d), weight_falls n (rest cs) (placed_rest cs p) d)

  -- ---- the walk, place by place

  pub rest_walk : (cs : List Change) → Placed lo hi cs → boundaries area_room cs ≡ onward (rest cs)
  rest_walk cs p = fills_walk lo hi (fill_is area_room cs) p

  pub walk_at : (n : ℕ) (cs : List Change) → Placed lo hi cs → get_or (onward cs) n 0 ≡ offset_or 0 (after n cs)
  unfolding after onward
  walk_at zero [] p = refl
  walk_at zero (c ∷ cs) p = refl
  walk_at (suc n) [] p = ap (offset_or 0) (sym (after_nil (suc n)))
  walk_at (suc n) (c ∷ cs) p = rw (rest_walk (c ∷ cs) p) (walk_at n (rest (c ∷ cs)) (placed_rest (c ∷ cs) p))

  pub walk_counts : (n : ℕ) (cs : List Change) → Placed lo hi cs → is_due (after n cs) ≡ ltb n (length (onward cs))
  unfolding after onward
  walk_counts zero [] p = refl
  walk_counts zero (c ∷ cs) p = sym (lt-ltb 0 (suc (length (boundaries area_room (c ∷ cs)))) (omega arith))
  walk_counts (suc n) [] p = ap is_due (after_nil (suc n)) ∙ sym (le-ltb (suc n) 0 (omega arith))
  walk_counts (suc n) (c ∷ cs) p =
      let later = walk_counts n (rest (c ∷ cs)) (placed_rest (c ∷ cs) p) in
      rw (leb-suc-suc (suc n) (length (boundaries area_room (c ∷ cs))), rest_walk (c ∷ cs) p) later

-- The one session of a node, over its changes: what it hands out, that it ends, which states it carries, and that a call needs no more than a state.
use mathlib.Core.Path.{◌≡◌, refl, sym, ap, subst, ◌∙◌}
use mathlib.Core.Bool.{true, false, false≢true}
use mathlib.Core.List.{List, [], ◌∷◌, ◌++◌}
use mathlib.Core.Logic.{◌↔◌}
use Prim.Native.Nat.{ℕ, zero, suc, ◌*◌, ◌-◌, ◌≤◌, ◌<◌}
use native.Mathlib.Omega.{arith}
use lib.Dec.{ltb}
use borrow.Author.Tests.{ltb-true, lt-ltb}
use lib.ListN.{length, get_or}
use Rattle.words.proofs.Choice.{decide}
use Rattle.property_area.specs.Claims.PropertyArea.{Sound}
use Rattle.properties.specs.Changes.{Change, properties, up_to, due_at, is_due, offset_or}
use Rattle.properties.specs.Filling.{area_room, fill, joined, weight, parts}
use Rattle.properties.specs.Session.{after, state, boundaries, states, member}
use Rattle.properties.specs.Inner.Terms.{handed_out}
use Rattle.properties.specs.Claims.Session.{Carried}
use Rattle.properties.proofs.Placing.{Placed, placed_before}
use Rattle.properties.proofs.Fills.{fill_is, fills_gives, fills_fit}
use Rattle.properties.proofs.Pieces.{pieces_from_lem}
use Rattle.properties.proofs.Offsets.{up_to_none, up_to_all, up_to_weight, due_start, offset_due, offset_end, offset_least}
use Rattle.properties.proofs.Walks.{onward}
use Rattle.properties.proofs.Members.{member_at, member_place}
use Rattle.properties.proofs.Areas.{rest, after_last, handed_last, placed_rest, placed_after, after_rises, handed_is, due_is, weight_falls, rest_walk, walk_at, walk_counts}

-- the account of the session over changes that end before the offset hi
pub record SessionOf (hi : ℕ) (cs : List Change) : Type 0 where
  -- 02: "the properties handed out are the node's changes in journal order up to the state, all of them at the end, with a value divided between calls
  -- counted as its joined bytes"
  pub handed : (n : ℕ) → is_due (after n cs) ≡ true → joined (handed_out n cs) ≡ up_to (state n cs) cs
  pub all : (n : ℕ) → is_due (after n cs) ≡ false → joined (handed_out n cs) ≡ properties cs
  -- an area holds what it is given
  pub fit : (n : ℕ) → weight (parts (fill area_room (after n cs)).pieces) ≤ area_room
  -- a session ends: each area hands something out, and all together but the last hand out 4,040 bytes each
  pub gives : (n : ℕ) → is_due (after n cs) ≡ true → 0 < length (fill area_room (after n cs)).pieces
  pub fills : (n : ℕ) → is_due (after n cs) ≡ true → 4040 * n ≤ weight (up_to (state n cs) cs)
  pub ends : (n : ℕ) → weight (properties cs) ≤ 4040 * n → is_due (after n cs) ≡ false
  pub short : 4040 * (length (states cs) - 1) < weight (properties cs)
  -- the walk lists the states that the session carries, in order
  pub listed : (n : ℕ) → get_or (states cs) n 0 ≡ state n cs
  pub counted : (n : ℕ) → is_due (after n cs) ≡ ltb n (length (states cs))
  pub carried : (s : ℕ) → (member s (states cs) ≡ true) ↔ Carried cs s
  -- a state tells what is due, so that a call that knows it alone gives the session's next area and next state
  pub afresh : (n : ℕ) → is_due (after n cs) ≡ true → due_at (state n cs) cs ≡ after n cs
  pub calls : (n : ℕ) → is_due (after n cs) ≡ true → handed_out (suc n) cs ≡ handed_out n cs ++ (fill area_room (due_at (state n cs) cs)).pieces
  pub next : (n : ℕ) → is_due (after n cs) ≡ true → state (suc n) cs ≡ offset_or 0 (fill area_room (due_at (state n cs) cs)).due
  -- states lie in the journal and rise, so that no two are the same and none but the first is 0
  pub inside : (n : ℕ) → is_due (after n cs) ≡ true → state n cs < hi
  pub rising : (m n : ℕ) → m < n → is_due (after n cs) ≡ true → state m cs < state n cs

due_weight : (cs : List Change) → is_due cs ≡ true → 0 < weight (properties cs)
unfolding weight properties
due_weight [] d = absurd (false≢true d)
due_weight (c ∷ cs) d = omega arith

-- the states of changes of which there are some are one for each area
onward_length : (cs : List Change) → is_due cs ≡ true → length (onward cs) ≡ length (states cs)
unfolding onward states
onward_length [] d = absurd (false≢true d)
onward_length (c ∷ cs) d = refl

module _ (lo hi : ℕ) (cs : List Change) (p : Placed lo hi cs) where
  -- ---- the state is the offset of what is due, but for 0 at the start and at the end

  state_due : (n : ℕ) → is_due (after (suc n) cs) ≡ true → state (suc n) cs ≡ offset_or hi (after (suc n) cs)
  unfolding state
  state_due n d = offset_due 0 hi (after (suc n) cs) d

  state_least : (n : ℕ) → state n cs ≤ offset_or hi (after n cs)
  unfolding state
  state_least zero = omega arith
  state_least (suc n) = offset_least hi (after (suc n) cs)

  inside : (n : ℕ) → is_due (after n cs) ≡ true → state n cs < hi
  inside n d = omega (arith, state_least n, placed_before lo hi (after n cs) (placed_after lo hi n cs p) d)

  rising : (m n : ℕ) → m < n → is_due (after n cs) ≡ true → state m cs < state n cs
  rising m zero h d = absurd (omega arith)
  rising m (suc n) h d = omega (arith, state_least m, after_rises lo hi m (suc n) cs p h d, state_due n d)

  -- ---- what is handed out, and what is due

  handed : (n : ℕ) → is_due (after n cs) ≡ true → joined (handed_out n cs) ≡ up_to (state n cs) cs
  unfolding state handed_out joined
  handed zero d = sym (up_to_none lo hi 0 cs p (omega arith))
  handed (suc n) d = rw (state_due n d) (handed_is lo hi (suc n) cs p)

  all : (n : ℕ) → is_due (after n cs) ≡ false → joined (handed_out n cs) ≡ properties cs
  all n d = handed_is lo hi n cs p ∙ up_to_all lo hi (offset_or hi (after n cs)) cs p (omega (arith, offset_end hi (after n cs) d))

  afresh : (n : ℕ) → is_due (after n cs) ≡ true → due_at (state n cs) cs ≡ after n cs
  unfolding state after
  afresh zero d = due_start cs
  afresh (suc n) d = rw (state_due n d) (due_is lo hi (suc n) cs p)

  calls : (n : ℕ) → is_due (after n cs) ≡ true → handed_out (suc n) cs ≡ handed_out n cs ++ (fill area_room (due_at (state n cs) cs)).pieces
  calls n d = rw (afresh n d) (handed_last n cs)

  next : (n : ℕ) → is_due (after n cs) ≡ true → state (suc n) cs ≡ offset_or 0 (fill area_room (due_at (state n cs) cs)).due
  unfolding state
  next n d = rw (afresh n d) (ap (offset_or 0) (after_last n cs))

  -- ---- the session ends

  fills : (n : ℕ) → is_due (after n cs) ≡ true → 4040 * n ≤ weight (up_to (state n cs) cs)
  fills n d = omega (arith, weight_falls lo hi n cs p d, up_to_weight (state n cs) cs, ap (λ (l : List Change). weight (properties l)) (afresh n d))

  more_due : (n : ℕ) → is_due (after n cs) ≡ true → 4040 * n < weight (properties cs)
  more_due n d = omega (arith, weight_falls lo hi n cs p d, due_weight (after n cs) d)

  ends : (n : ℕ) → weight (properties cs) ≤ 4040 * n → is_due (after n cs) ≡ false
  ends n h = decide (is_due (after n cs)) (λ d. absurd (omega (arith, more_due n d))) (λ d. d)

  -- ---- the walk

  listed : (n : ℕ) → get_or (states cs) n 0 ≡ state n cs
  unfolding states state after
  listed zero = refl
  listed (suc n) = rw (rest_walk lo hi cs p) (walk_at lo hi n (rest cs) (placed_rest lo hi cs p))

  module _ (some : is_due cs ≡ true) where
    counted : (n : ℕ) → is_due (after n cs) ≡ ltb n (length (states cs))
    counted n = walk_counts lo hi n cs p ∙ ap (ltb n) (onward_length cs some)

    short : 4040 * (length (states cs) - 1) < weight (properties cs)
    unfolding states
    short =
        let n = length (boundaries area_room cs) in
        omega (arith, more_due n (counted n ∙ lt-ltb n (suc n) (omega arith)))

    carried : (s : ℕ) → (member s (states cs) ≡ true) ↔ Carried cs s
    carried s = (
      (λ e. let m = member_place s (states cs) e in (m.0, counted m.0 ∙ lt-ltb m.0 _ m.1, sym (listed m.0) ∙ m.2)),
      (λ q. subst (λ (x : ℕ). member x (states cs) ≡ true) (listed q.0 ∙ q.2)
          (member_at (states cs) q.0 (ltb-true q.0 _ (sym (counted q.0) ∙ q.1)))),
    )

    -- what a call hands out from a carried state on is sound
    pub carried_sound : (s : ℕ) → member s (states cs) ≡ true → Sound (fill area_room (due_at s cs)).pieces
    carried_sound s e =
        let q = (carried s).0 e in
        let due : after q.0 cs ≡ due_at s cs = sym (afresh q.0 q.1) ∙ ap (λ (x : ℕ). due_at x cs) q.2 in
        pieces_from_lem lo hi (fill_is area_room (due_at s cs)) (subst (Placed lo hi) due (placed_after lo hi q.0 cs p))

pub session_of : (lo hi : ℕ) (cs : List Change) → Placed lo hi cs → is_due cs ≡ true → SessionOf hi cs
session_of lo hi cs p some = record {
  handed = handed lo hi cs p;
  all = all lo hi cs p;
  fit = λ n. fills_fit (fill_is area_room (after n cs));
  gives = λ n d. fills_gives lo hi (fill_is area_room (after n cs)) (placed_after lo hi n cs p) d;
  fills = fills lo hi cs p;
  ends = ends lo hi cs p;
  short = short lo hi cs p some;
  listed = listed lo hi cs p;
  counted = counted lo hi cs p some;
  carried = carried lo hi cs p some;
  afresh = afresh lo hi cs p;
  calls = calls lo hi cs p;
  next = next lo hi cs p;
  inside = inside lo hi cs p;
  rising = rising lo hi cs p;
}

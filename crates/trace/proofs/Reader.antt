-- The reader of a trace keeps what the laws of cutting ask of a reader.
use mathlib.Core.Path.{◌≡◌, refl, sym, ◌∙◌}
use mathlib.Core.Bool.{Bool, true, false, cond, ◌&&◌, and-false}
use mathlib.Core.List.{List}
use Prim.Native.Nat.{ℕ, ◌+◌, ◌-◌, ◌≤◌}
use native.Mathlib.Omega.{arith}
use lib.Dec.{leb}
use lib.ListN.{length, length-drop}
use borrow.Author.Tests.{leb-true, eqb-true}
use Rattle.words.proofs.Choice.{choose, decide, and_left, and_right}
use Rattle.records.specs.Records.{length_of, kind_of, whole}
use Rattle.records.specs.Cutting.{due, Sticky, Stops, Alike, fair}
use Rattle.trace.specs.Trace.{body_of, good_frame, is_good}
use Rattle.trace.specs.Playing.{Platform, State, stopped, faulted, played, step, concluded, reader}

-- ---- lengths and kinds

pub frame_bounds : (length kind : ℕ) → good_frame length kind ≡ true → (2 ≤ length) × (length ≤ 4102)
unfolding good_frame
frame_bounds length kind e = let front = and_left _ (leb 32 kind && leb kind 34) e in (leb-true 2 length (and_left _ _ front), leb-true length 4102 (and_right (leb 2 length) _ front))

module _ (r : List ℕ) (good : is_good r ≡ true) where
  pub framed : (2 ≤ length_of r) × (length r ≡ length_of r + 2)
  unfolding is_good whole
  framed =
      let w = and_left _ (good_frame (length_of r) (kind_of r)) good in
      (leb-true 2 (length_of r) (and_left _ _ w), eqb-true (length r) (length_of r + 2) (and_right (leb 2 (length_of r)) _ w))

  pub body_short : length (body_of r) ≤ 4100
  unfolding is_good
  body_short = omega (arith, length-drop 4 r, framed.1, (frame_bounds (length_of r) (kind_of r) (and_right (whole r) _ good)).1)

-- no record is longer than the buffer that holds it
pub due_most : (r : List ℕ) → due good_frame r ≤ 4104
unfolding due
due_most r = go (good_frame (length_of r) (kind_of r)) refl
  where
    go : (t : Bool) → good_frame (length_of r) (kind_of r) ≡ t → 4 + cond t (length_of r - 2) 0 ≤ 4104
    go true e = omega (arith, (frame_bounds (length_of r) (kind_of r) e).1)
    go false e = omega arith

-- ---- the step

pub faulted_stopped : (s : State) → stopped (faulted s) ≡ true
unfolding stopped faulted
faulted_stopped s = refl

pub concluded_stopped : (s : State) → stopped s ≡ true → concluded s ≡ s
unfolding concluded
concluded_stopped s e = rw e

module _ (p : Platform) where
  fair_good : (r : List ℕ) → fair (reader p) r ≡ is_good r
  unfolding is_good
  fair_good r = refl

  pub sticky : Sticky (reader p)
  unfolding step
  sticky s r e = rw e

  -- a record that is not whole, or not good by its length and kind
  pub unfair_step : (s : State) (r : List ℕ) → stopped s ≡ false → fair (reader p) r ≡ false → step p s r ≡ faulted s
  unfolding step
  unfair_step s r e f = let g : is_good r ≡ false = sym (fair_good r) ∙ f in rw (e, g, and-false)

  pub stops : Stops (reader p)
  stops s r f = decide (stopped s) (λ e. rw (sticky s r e) e) (λ e. rw (unfair_step s r e f) (faulted_stopped s))

  pub alike : Alike (reader p)
  alike s r q f g = decide (stopped s) (λ e. sticky s r e ∙ sym (sticky s q e)) (λ e. unfair_step s r e f ∙ sym (unfair_step s q e g))

  -- the ways of a record where nothing has stopped the replay: it is a fault, or good and within the limit
  pub ways : (s : State) (r : List ℕ) → stopped s ≡ false → (P : State → Type 0) → P (faulted s) → (s.records + 1 ≤ 4_294_967_295 → is_good r ≡ true → P (played p s s.waiting (kind_of r) (body_of r))) → P (step p s r)
  unfolding step
  ways s r going P bad good =
      rw going (choose (leb (s.records + 1) 4_294_967_295 && is_good r) P (λ t. good (leb-true (s.records + 1) 4_294_967_295 (and_left _ _ t)) (and_right (leb (s.records + 1) 4_294_967_295) _ t)) (λ _. bad))

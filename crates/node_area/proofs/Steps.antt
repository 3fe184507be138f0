-- Laws of the step of a cursor: how the code's ways make it, and that it gives the first of the operations that remain.
use mathlib.Core.Path.{◌≡◌, refl, sym, ap, ◌∙◌}
use mathlib.Core.Bool.{Bool, true, false, cond}
use mathlib.Core.List.{List, [], ◌∷◌}
use Rattle.std.specs.Prelude.{Option, Some, None}
use Prim.Native.Nat.{ℕ, zero, suc, ◌+◌, ◌-◌, ◌<◌, ◌≤◌}
use native.Mathlib.Numerals.{sub-one}
use native.Mathlib.Omega.{arith}
use lib.Dec.{eqb}
use lib.ListN.{length, drop}
use lib.Seq.{drop-drop}
use borrow.Author.Tests.{eq-eqb, ne_eqb}
use Rattle.words.specs.Numbers.{be, words}
use Rattle.words.proofs.Words.{words_step, words_short, words_drop}
use Rattle.journal.specs.declared.operation.Operation.TheVariants.{Add}
use Rattle.node_area.specs.Reading.{opcode_in, count_in, single, operations_at}
use Rattle.journal.specs.declared.operation.Operation.{Operation}
use Rattle.node_area.specs.declared.reading.Cursor.{Cursor}
use Rattle.node_area.specs.Claims.Cursor.{remaining, Gives, step_at, next_of, StepsGive}

-- ---- the step at operand words

module _ (w at code : ℕ) where
  step_single : (ws : List ℕ) (n : ℕ) → (code ≡ 3 → ⊥) → 0 < n → Some (single code w, record { at = at + 4; code = code; left = n - 1 }) ≡ step_at (w ∷ ws) at code n
  unfolding step_at
  step_single ws zero h l = absurd (omega arith)
  step_single [] (suc n) h l = rw (sub-one (suc n), ne_eqb code 3 h)
  step_single (v ∷ ws) (suc n) h l = rw (sub-one (suc n), ne_eqb code 3 h)

  step_half : (n : ℕ) → code ≡ 3 → 0 < n → None ≡ step_at (w ∷ []) at code n
  unfolding step_at
  step_half zero e l = absurd (omega arith)
  step_half (suc n) e l = rw (eq-eqb code 3 e)

  step_pair : (v : ℕ) (ws : List ℕ) (n : ℕ) → code ≡ 3 → 0 < n → Some (Add w v, record { at = at + 8; code = code; left = n - 2 }) ≡ step_at (w ∷ v ∷ ws) at code n
  unfolding step_at
  step_pair v ws zero e l = absurd (omega arith)
  step_pair v ws (suc n) e l = let two : suc n - 2 ≡ n - 1 = omega arith in rw (two, eq-eqb code 3 e)

-- ---- the step from a place of an area on

module _ (a : List ℕ) (at code n : ℕ) where
  abbrev here : Option (Operation × Cursor)
  here = step_at (words (drop at a)) at code n

  pub ends_out : length a - at < 4 → None ≡ here
  unfolding step_at
  ends_out h = rw (words_short a at h)

  module _ (fits : at + 4 ≤ length a) where
    pub ends_zero : n ≡ 0 → be 4 a at ≡ 0 → None ≡ here
    unfolding step_at
    ends_zero e z = rw (e, words_step a at fits, z)

    pub goes_on : n ≡ 0 → (be 4 a at ≡ 0 → ⊥) → here ≡ step_at (words (drop (at + 4) a)) (at + 4) (opcode_in (be 4 a at)) (count_in (be 4 a at))
    unfolding step_at
    goes_on e z = rw (e, words_step a at fits, ne_eqb (be 4 a at) 0 z)

    module _ (some : 0 < n) where
      pub gives_single : (code ≡ 3 → ⊥) → Some (single code (be 4 a at), record { at = at + 4; code = code; left = n - 1 }) ≡ here
      gives_single h = rw (words_step a at fits) (step_single (be 4 a at) at code _ n h some)

      pub ends_half : code ≡ 3 → length a - (at + 4) < 4 → None ≡ here
      ends_half e h = rw (words_step a at fits, words_short a (at + 4) h) (step_half (be 4 a at) at code n e some)

      pub gives_pair : code ≡ 3 → at + 4 + 4 ≤ length a → Some (Add (be 4 a at) (be 4 a (at + 4)), record { at = at + 8; code = code; left = n - 2 }) ≡ here
      gives_pair e h = rw (words_step a at fits, words_step a (at + 4) h) (step_pair (be 4 a at) at code (be 4 a (at + 4)) _ n e some)

-- the ways of the code, for the tactics
pub ruleset steps = (ends_out, ends_zero, ends_half, gives_single, gives_pair, goes_on)

-- ---- a step gives the first of the operations before a cursor

behind_word : (a ws : List ℕ) (at w : ℕ) → words (drop at a) ≡ w ∷ ws → words (drop (at + 4) a) ≡ ws
behind_word a ws at w e = sym (words_drop 1 (drop at a) ∙ ap words (drop-drop 4 at a)) ∙ ap (drop 1) e

step_gives : (a ws : List ℕ) (at code n : ℕ) → words (drop at a) ≡ ws → Gives a (operations_at ws code n) (step_at ws at code n)
unfolding operations_at step_at remaining
step_gives a [] at code n e = refl
step_gives a (w ∷ ws) at code zero e = go (eqb w 0) (step_gives a ws (at + 4) (opcode_in w) (count_in w) (behind_word a ws at w e))
  where
    go : (t : Bool) → Gives a (operations_at ws (opcode_in w) (count_in w)) (step_at ws (at + 4) (opcode_in w) (count_in w))
        → Gives a (cond t [] (operations_at ws (opcode_in w) (count_in w))) (cond t None (step_at ws (at + 4) (opcode_in w) (count_in w)))
    go true h = refl
    go false h = h
step_gives a (w ∷ []) at code (suc n) e = go (eqb code 3)
  where
    go : (t : Bool) → Gives a (cond t [] (single code w ∷ [])) (cond t None (Some (single code w, record { at = at + 4; code = code; left = n })))
    go true = refl
    go false = rw (behind_word a [] at w e)
step_gives a (w ∷ v ∷ ws) at code (suc n) e = go (eqb code 3)
  where
    one : words (drop (at + 4) a) ≡ v ∷ ws
    one = behind_word a (v ∷ ws) at w e

    two : words (drop (at + 8) a) ≡ ws
    two = let eight : at + 4 + 4 ≡ at + 8 = omega arith in rw eight at (behind_word a ws (at + 4) v one)

    go : (t : Bool) → Gives a (cond t (Add w v ∷ operations_at ws code (n - 1)) (single code w ∷ operations_at (v ∷ ws) code n))
        (cond t (Some (Add w v, record { at = at + 8; code = code; left = n - 1 })) (Some (single code w, record { at = at + 4; code = code; left = n })))
    go true = rw two
    go false = rw one

-- the claim that `Cursor::next` cites
pub steps_give : StepsGive
unfolding remaining next_of
steps_give area c = step_gives area (words (drop c.at area)) c.at c.code c.left refl

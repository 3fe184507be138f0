-- Laws of the words in front of the terminator: a walk from operator to operator counts them.
use mathlib.Core.Path.{◌≡◌, refl, ap, ◌∙◌}
use mathlib.Core.List.{List, [], ◌∷◌}
use Prim.Native.Nat.{ℕ, zero, suc, ◌+◌, ◌*◌, ◌-◌, ◌/◌, ◌%◌, ◌<◌, ◌≤◌, min}
use native.Mathlib.Omega.{arith}
use lib.ListN.{length, drop, length-drop}
use lib.Seq.{drop-drop}
use borrow.Author.Tests.{ne_eqb}
use Rattle.words.specs.Numbers.{be, words}
use Rattle.words.proofs.Words.{words_step, words_short, words_drop, length_words}
use Rattle.node_area.specs.Reading.{count_in}
use Rattle.counting.specs.Area.{words_used}

-- past operands, as far as there are words
used_passed : (k : ℕ) (ws : List ℕ) → words_used k ws ≡ min k (length ws) + words_used 0 (drop k ws)
unfolding words_used
used_passed zero [] = omega arith
used_passed (suc k) [] = omega arith
used_passed zero (w ∷ ws) = omega arith
used_passed (suc k) (w ∷ ws) = omega (arith, used_passed k ws)

module _ (w : ℕ) (ws : List ℕ) where
  pub used_end : w ≡ 0 → words_used 0 (w ∷ ws) ≡ 0
  unfolding words_used
  used_end e = rw e

  pub used_more : (w ≡ 0 → ⊥) → words_used 0 (w ∷ ws) ≡ suc (words_used (count_in w) ws)
  unfolding words_used
  used_more h = rw (ne_eqb w 0 h)

used_none : words_used 0 [] ≡ 0
unfolding words_used
used_none = refl

-- the words passed, behind an operator with n operands
step : (at n : ℕ) → at % 4 ≡ 0 → 16 ≤ at → at < 4096 → min ((at - 16) / 4) 1020 + suc (min n ((4096 - (at + 4)) / 4)) ≡ min ((at + (4 + 4 * n) - 16) / 4) 1020
step at n e l h = omega arith

-- A walk that stands at the place of an operator, or past the area's end: the words passed and those used from there on are all.
pub record Passed (a : List ℕ) (at : ℕ) : Type 0 where
  pub place : at % 4 ≡ 0
  pub start : 16 ≤ at
  pub all : words_used 0 (words (drop 16 a)) ≡ min ((at - 16) / 4) 1020 + words_used 0 (words (drop at a))

pub passed_none : (a : List ℕ) → Passed a 16
passed_none a = record { place = refl; start = omega arith; all = omega arith }

module _ (a : List ℕ) (at : ℕ) (p : Passed a at) (size : length a ≡ 4096) where
  pub passed_out : 4096 ≤ at → 1020 ≡ words_used 0 (words (drop 16 a))
  passed_out h =
      let none : words_used 0 (words (drop at a)) ≡ 0 = ap (words_used 0) (words_short a at (omega arith)) ∙ used_none in
      omega (arith, p.all)

  -- at an operator
  module _ (w : ℕ) (more : at < 4096) (word : w ≡ be 4 a at) where
    ahead : words (drop at a) ≡ w ∷ words (drop (at + 4) a)
    ahead = rw word (words_step a at (omega (arith, p.place)))

    pub passed_end : w ≡ 0 → (at - 16) / 4 ≡ words_used 0 (words (drop 16 a))
    passed_end e = omega (arith, p.all, ap (words_used 0) ahead ∙ used_end w _ e)

    pub passed_more : (w ≡ 0 → ⊥) → Passed a (at + (4 + 4 * count_in w))
    passed_more h =
        let n = count_in w in
        let ws = words (drop (at + 4) a) in
        let left : length ws ≡ (4096 - (at + 4)) / 4 = length_words ((4096 - (at + 4)) / 4) (drop (at + 4) a) (omega (arith, p.place, length-drop (at + 4) a)) in
        let rest : drop n ws ≡ words (drop (at + 4 + 4 * n) a) = words_drop n (drop (at + 4) a) ∙ ap words (drop-drop (4 * n) (at + 4) a) in
        let next : at + 4 + 4 * n ≡ at + (4 + 4 * n) = omega arith in
        let used : words_used 0 (words (drop at a)) ≡ suc (min n (length ws) + words_used 0 (words (drop (at + (4 + 4 * n)) a))) =
        ap (words_used 0) ahead ∙ used_more w ws h ∙ ap suc (rw (rest, next) at (used_passed n ws)) in
        record { place = omega (arith, p.place); start = omega (arith, p.start); all = p.all ∙ rw (used, left, ← step at n p.place p.start more) (omega arith) }

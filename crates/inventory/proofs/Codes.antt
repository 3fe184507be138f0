-- Bytes of a location code that are not zero.
use Rattle.std.proofs.Common.{◌≡◌, ℕ, ◌+◌, ◌-◌, ◌<◌, ◌≤◌, min, Bool, true, false, ◌&&◌, not, eqb, List, [], ◌∷◌, ◌++◌, length, take, drop, refl, sym, ap, ◌∙◌, arith, rules}
use Rattle.std.specs.List.{fold}
use Rattle.std.proofs.lemmas.Bool.Decides.{nat_tests}
use Rattle.std.proofs.lemmas.List.{take_all}
use mathlib.Core.Bool.{and_assoc}
use lib.ListN.{take-append-drop, length-drop}
use lib.Seq.{take-add}
use Rattle.inventory.specs.Inventory.{code_limit, all_non_zero}

-- the length of a code with its NULs fits a word
pub code_in_word : code_limit < 0x1_0000
unfolding code_limit
code_in_word = omega arith

-- by the least of a byte and those of a list
least_from : (n : ℕ) (s : List ℕ) → not (eqb (fold min n s) 0) ≡ (not (eqb n 0) && all_non_zero s)
unfolding all_non_zero
least_from n [] = search (rules, nat_tests)
least_from n (b ∷ bs) =
    let lesser : not (eqb (min n b) 0) ≡ (not (eqb n 0) && not (eqb b 0)) = grind (arith, nat_tests) in
    least_from (min n b) bs ∙ rw lesser (and_assoc (not (eqb n 0)) (not (eqb b 0)) (all_non_zero bs))

pub least_non_zero : (s : List ℕ) → not (eqb (fold min 255 s) 0) ≡ all_non_zero s
least_non_zero s = least_from 255 s

non_zero_append : (xs ys : List ℕ) → all_non_zero (xs ++ ys) ≡ (all_non_zero xs && all_non_zero ys)
unfolding all_non_zero
non_zero_append [] ys = refl
non_zero_append (x ∷ xs) ys = rw (non_zero_append xs ys) (sym (and_assoc (not (eqb x 0)) (all_non_zero xs) (all_non_zero ys)))

-- two parts that overlap, or follow each other, tell of the whole
overlapping : (s : List ℕ) (back between : ℕ) → all_non_zero s ≡ (all_non_zero (take (back + between) s) && all_non_zero (drop back s))
overlapping s back between =
    let split : (m : ℕ) (xs : List ℕ) → all_non_zero xs ≡ (all_non_zero (take m xs) && all_non_zero (drop m xs)) =
    λ m xs. ap all_non_zero (sym (take-append-drop m xs)) ∙ non_zero_append (take m xs) (drop m xs) in
    let front = ap all_non_zero (take-add back between s) ∙ non_zero_append (take back s) (take between (drop back s)) in
    rw (front, split back s, split between (drop back s)) (once (all_non_zero (take back s)) (all_non_zero (take between (drop back s))) (all_non_zero (drop between (drop back s))))
  where
    once : (x y z : Bool) → (x && (y && z)) ≡ ((x && y) && (y && z))
    once true true z = refl
    once true false z = refl
    once false y z = refl

pub non_zero_parts : (s : List ℕ) (first back : ℕ) → back ≤ first
    → all_non_zero s ≡ (all_non_zero (take first s) && all_non_zero (take (length s - back) (drop back s)))
non_zero_parts s first back h =
    let joined : back + (first - back) ≡ first = omega arith in
    let rest : take (length s - back) (drop back s) ≡ drop back s = take_all (length s - back) (drop back s) (rw length-drop (omega arith)) in
    rw (rest, ← joined) (overlapping s back (first - back))

-- Laws of a walk over the operators of an area: what an operator of a good area is, and the operations of its operand words.
use mathlib.Core.Path.{◌≡◌, refl, sym, ap}
use mathlib.Core.Bool.{Bool, true, false, cond, not}
use mathlib.Core.List.{List, [], ◌∷◌, ◌++◌, append-nil}
use Prim.Native.Nat.{ℕ, zero, suc, ◌+◌, ◌*◌, ◌-◌, ◌/◌, ◌%◌, ◌<◌, ◌≤◌, min}
use native.Mathlib.Nat.{zero-add, add-zero, suc-add, sub-zero}
use native.Mathlib.Numerals.{sub-one}
use native.Mathlib.Omega.{arith}
use lib.Dec.{eqb}
use lib.ListN.{length, take, drop}
use borrow.Author.Tests.{eqb-true, eqb-false}
use Rattle.words.specs.Numbers.{words}
use Rattle.words.specs.Reading.{read, refused}
use Rattle.words.proofs.Choice.{choose}
use Rattle.words.proofs.Words.{words_drop}
use Rattle.journal.specs.declared.operation.Operation.{Operation}
use Rattle.journal.specs.declared.operation.Operation.TheVariants.{Add}
use Rattle.node_area.specs.declared.reading.Refusal.TheVariants.{Size, Reserved}
use Rattle.node_area.specs.declared.reading.Refusal.{Refusal}
use Rattle.std.specs.Prelude.{Result, Ok, Err}
use Rattle.node_area.specs.Reading.{fault_of, Verdict, good, bad, verdict, single, operations_at, read_by, reading}
use Rattle.node_area.specs.Head.{area_size, head_size, reserved_from, is_reserved}
use Rattle.node_area.proofs.Verdicts.{verdict_bad, operations_next, operations_single, operations_pair}

-- ---- a good area

read_good : (a b : Bool) (k : ℕ) (v : Verdict) (os ps : List Operation) → cond a (refused Size 0) (cond b (refused Reserved k) (read_by v os)) ≡ read ps → v ≡ good
read_good true b k v os ps e = cc
read_good false true k v os ps e = cc
read_good false false k good os ps e = refl
read_good false false k (bad r at) os ps e = cc

-- in an area that is read nothing is wrong
pub good_words : (scope : ℕ) (area : List ℕ) (os : List Operation) → reading scope area ≡ read os → verdict 0 head_size 0 (words (drop head_size area)) ≡ good
unfolding reading
good_words scope area os e =
    let ws = drop 4 (words area) in
    rw (words_drop 4 area) at (read_good (not (eqb (length area) area_size)) (not (is_reserved scope area)) (reserved_from scope) (verdict 0 head_size 0 ws) (operations_at ws 0 0) os e)

-- ---- an operator

-- an operator of good words is fine
pub good_fine : (w at last : ℕ) (ws : List ℕ) → (w ≡ 0 → ⊥) → verdict 0 at last (w ∷ ws) ≡ good → fault_of w last (length ws) ≡ Ok (tt {0})
good_fine w at last ws h g = go (fault_of w last (length ws)) refl
  where
    go : (f : Result (Unit {0}) Refusal) → fault_of w last (length ws) ≡ f → fault_of w last (length ws) ≡ Ok (tt {0})
    go (Ok _) e = e
    go (Err r) e = let b = verdict_bad w at last ws r h e in cc

-- words stand inside of their bytes
pub words_inside : (l : List ℕ) → 4 * length (words l) ≤ length l
unfolding words
words_inside [] = omega arith
words_inside (a ∷ []) = omega arith
words_inside (a ∷ b ∷ []) = omega arith
words_inside (a ∷ b ∷ c ∷ []) = omega arith
words_inside (a ∷ b ∷ c ∷ d ∷ l) = omega (arith, words_inside l)

-- ---- the operations of operand words

-- the first n of m operand words: their operations, then those behind them
pub singles_split : (code : ℕ) → (code ≡ 3 → ⊥) → (n j m : ℕ) (ws : List ℕ) → n ≤ m → n ≤ length ws
    → take (n + j) (operations_at ws code m) ≡ take n (operations_at ws code n) ++ take j (operations_at (drop n ws) code (m - n))
singles_split code h zero j m ws l k = rw (zero-add, sub-zero)
singles_split code h (suc n) j m [] l k = absurd (omega arith)
singles_split code h (suc n) j m (w ∷ ws) l k =
    let less : m - suc n ≡ m - 1 - n = omega arith in
    rw (less, suc-add n j, operations_single code w ws m h (omega arith), operations_single code w ws (suc n) h (omega arith), sub-one (suc n))
    (ap (λ (os : List Operation). single code w ∷ os) (singles_split code h n j (m - 1) ws (omega arith) (omega arith)))

-- the first n of the pairs of m operand words
pub pairs_split : (n j m : ℕ) (ws : List ℕ) → n + n ≤ m → n + n ≤ length ws
    → take (n + j) (operations_at ws 3 m) ≡ take n (operations_at ws 3 (n + n)) ++ take j (operations_at (drop (n + n) ws) 3 (m - (n + n)))
pairs_split zero j m ws l k = rw (zero-add, sub-zero)
pairs_split (suc n) j m [] l k = absurd (omega arith)
pairs_split (suc n) j m (w ∷ []) l k = absurd (omega arith)
pairs_split (suc n) j m (w ∷ v ∷ ws) l k =
    let two : suc n + suc n ≡ suc (suc (n + n)) = omega arith in
    let less : m - suc (suc (n + n)) ≡ m - 1 - 1 - (n + n) = omega arith in
    rw (two, less, suc-add n j, operations_pair 3 w v ws m refl (omega arith), operations_pair 3 w v ws (suc (suc (n + n))) refl (omega arith), sub-one (suc (suc (n + n))), sub-one (suc (n + n)))
    (ap (λ (os : List Operation). Add w v ∷ os) (pairs_split n j (m - 1 - 1) ws (omega arith) (omega arith)))

-- so the first of them do not tell how many there are
pub singles_cut : (code : ℕ) → (code ≡ 3 → ⊥) → (n m : ℕ) (ws : List ℕ) → n ≤ m → n ≤ length ws → take n (operations_at ws code n) ≡ take n (operations_at ws code m)
singles_cut code h n m ws l k = sym (simp (add-zero, append-nil) at (singles_split code h n 0 m ws l k))

pub pairs_cut : (n m : ℕ) (ws : List ℕ) → n + n ≤ m → n + n ≤ length ws → take n (operations_at ws 3 (n + n)) ≡ take n (operations_at ws 3 m)
pairs_cut n m ws l k = sym (simp (add-zero, append-nil) at (pairs_split n 0 m ws l k))

-- behind the last operand word stands an operator
behind_last : (j n m code : ℕ) (ws : List ℕ) → (0 < j → n ≡ m) → take j (operations_at (drop n ws) code (m - n)) ≡ take j (operations_at (drop m ws) 0 0)
behind_last zero n m code ws h = refl
behind_last (suc j) n m code ws h = let none : m - m ≡ 0 = omega arith in rw (h (omega arith), none, operations_next)

-- of an operator with m operand words, and of those behind it, the first operations: as many of its own as it has, then the others
pub operator_split : (code m most r : ℕ) (ws : List ℕ) → m ≤ length ws → (code ≡ 3 → m % 2 ≡ 0) → r ≡ min (cond (eqb code 3) (m / 2) m) most
    → take most (operations_at ws code m) ≡ take r (operations_at ws code m) ++ take (most - r) (operations_at (drop m ws) 0 0)
operator_split code m most r ws l even =
    choose (eqb code 3) (λ (k : ℕ). r ≡ min k most → take most (operations_at ws code m) ≡ take r (operations_at ws code m) ++ take (most - r) (operations_at (drop m ws) 0 0)) pairs singles
  where
    singles : eqb code 3 ≡ false → r ≡ min m most → take most (operations_at ws code m) ≡ take r (operations_at ws code m) ++ take (most - r) (operations_at (drop m ws) 0 0)
    singles e least =
        let other = eqb-false code 3 e in
        let all : r + (most - r) ≡ most = omega arith in
        let inside : r ≤ m = omega arith in
        rw (all, singles_cut code other r m ws inside (omega arith), behind_last (most - r) r m code ws (λ h. omega arith)) at (singles_split code other r (most - r) m ws inside (omega arith))

    pairs : eqb code 3 ≡ true → r ≡ min (m / 2) most → take most (operations_at ws code m) ≡ take r (operations_at ws code m) ++ take (most - r) (operations_at (drop m ws) 0 0)
    pairs e least =
        let three = eqb-true code 3 e in
        let all : r + (most - r) ≡ most = omega arith in
        let inside : r + r ≤ m = omega arith in
        let whole : m % 2 ≡ 0 = even three in
        rw three (rw (all, pairs_cut r m ws inside (omega arith), behind_last (most - r) (r + r) m 3 ws (λ h. omega arith)) at (pairs_split r (most - r) m ws inside (omega arith)))

-- Labels and places of the 39 rows.
use mathlib.Core.Path.{◌≡◌, refl, ap}
use mathlib.Core.Bool.{Bool, true, cond, ◌&&◌}
use mathlib.Core.List.{[], ◌∷◌, ◌++◌}
use Prim.Native.Nat.{ℕ, zero, suc, ◌+◌, ◌-◌, ◌*◌, ◌/◌, ◌%◌, ◌≤◌, ◌<◌}
use native.Mathlib.Omega.{arith}
use lib.Dec.{ltb, eqb}
use borrow.Author.Tests.{eqb-true, eqb-false, ltb-true, lt-ltb, le-ltb, ne_eqb}
use Rattle.words.proofs.Choice.{decide, and_left, and_right}
use Rattle.month_table.specs.Table.{status_word, last_word, label, place}
use Rattle.month_table.proofs.Begins.{in_line}

-- a test of every number below another
unfoldable pub each_below : ℕ → (ℕ → Bool) → Bool
each_below zero test = true
each_below (suc n) test = each_below n test && test n

pub below : (n : ℕ) (test : ℕ → Bool) → each_below n test ≡ true → (i : ℕ) → i < n → test i ≡ true
unfolding each_below
below zero test e i h = absurd (omega arith)
below (suc n) test e i h = decide (eqb i n)
    (λ t. rw (eqb-true i n t) (and_right (each_below n test) (test n) e))
    (λ t. below n test (and_left (each_below n test) (test n) e) i (omega (arith, eqb-false i n t)))

-- the row of a place
pub row_of : ℕ → ℕ
row_of i = cond (ltb i 28) (8 * (i / 7) + i % 7) (cond (ltb i 32) (8 * (i - 28) + 7) i)

pub label_in_line : (p : ℕ) → p < 39 → in_line (label p) ≡ true
unfolding label status_word last_word each_below
label_in_line p h = below 39 (λ (p : ℕ). in_line (label p)) refl p h

pub place_below : (p : ℕ) → p < 39 → place p < 39
unfolding place each_below
place_below p h = ltb-true (place p) 39 (below 39 (λ (p : ℕ). ltb (place p) 39) refl p h)

row_of_place : (p : ℕ) → p < 39 → row_of (place p) ≡ p
unfolding place row_of each_below
row_of_place p h = eqb-true (row_of (place p)) p (below 39 (λ (p : ℕ). eqb (row_of (place p)) p) refl p h)

-- no two rows have one place
pub places_differ : (q p : ℕ) → q < p → p < 39 → place q ≡ place p → ⊥
places_differ q p l h e = let same = ap row_of e in omega (arith, row_of_place q (omega arith), row_of_place p h)

-- every place has its row
pub onto : (i : ℕ) → i < 39 → (row_of i < 39) × (place (row_of i) ≡ i)
unfolding place row_of each_below
onto i h =
    (ltb-true (row_of i) 39 (below 39 (λ (i : ℕ). ltb (row_of i) 39) refl i h), eqb-true (place (row_of i)) i (below 39 (λ (i : ℕ). eqb (place (row_of i)) i) refl i h))

-- ---- in numerals

pub label_at : (p t s : ℕ) → t < 4 → s < 8 → p ≡ 8 * t + s → label p ≡ (49 + t) ∷ 44 ∷ (status_word s ++ (44 ∷ []))
unfolding label
label_at p t s h l e =
    let token : p / 8 ≡ t = omega arith in
    let status : p % 8 ≡ s = omega arith in
    rw (lt-ltb p 32 (omega arith), token, status)

pub place_at : (t s : ℕ) → t < 4 → s < 7 → place (8 * t + s) ≡ 7 * t + s
unfolding place
place_at t s h l =
    let token : (8 * t + s) / 8 ≡ t = omega arith in
    let status : (8 * t + s) % 8 ≡ s = omega arith in
    rw (lt-ltb (8 * t + s) 32 (omega arith), token, status, ne_eqb s 7 (λ e. omega arith))

pub place_all : (t : ℕ) → t < 4 → place (8 * t + 7) ≡ 28 + t
unfolding place
place_all t h =
    let token : (8 * t + 7) / 8 ≡ t = omega arith in
    let status : (8 * t + 7) % 8 ≡ 7 = omega arith in
    rw (lt-ltb (8 * t + 7) 32 (omega arith), token, status)

pub place_last : (p : ℕ) → 32 ≤ p → place p ≡ p
unfolding place
place_last p h = rw (le-ltb p 32 h)

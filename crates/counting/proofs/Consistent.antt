-- The figures of counts that have come are consistent.
use mathlib.Core.Path.{◌≡◌, refl, sym, ap, ◌∙◌}
use mathlib.Core.Bool.{true}
use mathlib.Core.List.{List, [], ◌∷◌, ◌++◌}
use Prim.Native.Nat.{ℕ, zero, suc, ◌+◌, ◌*◌, ◌≤◌}
use native.Mathlib.Omega.{arith}
use lib.ListN.{length, get_or, drop}
use lib.Seq.{get_or-append-add}
use borrow.Author.Tests.{le-leb, eq-eqb}
use Rattle.totals.specs.Consistent.{sum_from, calls_agree, words_agree, consistent}
use Rattle.counting.specs.declared.counts.Counts.{Counts}
use Rattle.counting.specs.Figures.{sum_of, figures_in, figures_of}

-- behind the first of a list
from_next : (x : ℕ) (l : List ℕ) (at n : ℕ) → sum_from (x ∷ l) (suc at) n ≡ sum_from l at n
unfolding sum_from
from_next x l at zero = refl
from_next x l at (suc n) = ap (λ (k : ℕ). get_or l at 0 + k) (from_next x l (suc at) n)

-- a sum over rows that stand in front
from_rows : (rows rest : List ℕ) (at n : ℕ) → at + n ≤ length rows → sum_from (rows ++ rest) at n ≡ sum_of n (drop at rows)
unfolding sum_from sum_of
from_rows rows rest at zero h = refl
from_rows [] rest at (suc n) h = absurd (omega arith)
from_rows (r ∷ rows) rest zero (suc n) h = ap (λ (k : ℕ). r + k) (from_next r (rows ++ rest) zero n ∙ from_rows rows rest zero n (omega arith))
from_rows (r ∷ rows) rest (suc at) (suc n) h = from_next r (rows ++ rest) at (suc n) ∙ from_rows rows rest at (suc n) (omega arith)

module _ (c : Counts) (size : length c.rows ≡ 28) where
  abbrev fs : List ℕ
  fs = figures_in c

  sums : (at n : ℕ) → at + n ≤ 28 → sum_from fs at n ≡ sum_of n (drop at c.rows)
  sums at n h = from_rows c.rows _ at n (omega arith)

  pub behind : (rest : List ℕ) (k : ℕ) → get_or (c.rows ++ rest) (28 + k) 0 ≡ get_or rest k 0
  behind rest k = rw (sym size) (get_or-append-add c.rows rest k 0)

  calls_agree_lem : calls_agree fs ≡ true
  unfolding calls_agree
  calls_agree_lem =
      rw (
        eq-eqb (get_or fs 28 0) (sum_from fs 0 7) (behind _ 0 ∙ sym (sums 0 7 (omega arith))),
        eq-eqb (get_or fs 29 0) (sum_from fs 7 7) (behind _ 1 ∙ sym (sums 7 7 (omega arith))),
        eq-eqb (get_or fs 30 0) (sum_from fs 14 7) (behind _ 2 ∙ sym (sums 14 7 (omega arith))),
        eq-eqb (get_or fs 31 0) (sum_from fs 21 7) (behind _ 3 ∙ sym (sums 21 7 (omega arith))),
      )

  words_agree_lem : c.operations ≤ c.used → c.used ≤ 1019 * sum_of 2 c.rows → words_agree fs ≡ true
  unfolding words_agree
  words_agree_lem o u =
      rw (behind _ 4, behind _ 5, behind _ 6, sums 0 2 (omega arith), eq-eqb (1019 * sum_of 2 c.rows) (1019 * sum_of 2 c.rows) refl, le-leb c.operations c.used o)
      (le-leb c.used (1019 * sum_of 2 c.rows) u)

pub figures_consistent : (c : Counts) → length c.rows ≡ 28 → c.operations ≤ c.used → c.used ≤ 1019 * sum_of 2 c.rows → consistent (figures_of c) ≡ true
unfolding consistent
figures_consistent c size o u = rw (calls_agree_lem c size, words_agree_lem c size o u)

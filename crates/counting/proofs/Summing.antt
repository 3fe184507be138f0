-- Laws of sums over rows, and of the list of figures.
use mathlib.Core.Path.{◌≡◌, refl, sym, ap, ◌∙◌}
use mathlib.Core.List.{List, [], ◌∷◌, ◌++◌}
use Prim.Native.Nat.{ℕ, zero, suc, ◌+◌, ◌*◌, ◌-◌, ◌<◌, ◌≤◌}
use native.Mathlib.Nat.{zero-add, suc-add}
use native.Mathlib.Numerals.{add-one}
use native.Mathlib.Omega.{arith}
use Rattle.std.specs.Prelude.{sum}
use Rattle.std.proofs.lemmas.List.Sums.{sum_by-cons}
use lib.ListN.{length, get_or, take, drop, replicate, set, length-append}
use lib.Seq.{length-take-le, take-suc, get_or-drop, append_snoc, set_at}
use Rattle.counting.specs.declared.counts.Counts.{Counts}
use Rattle.counting.specs.Figures.{sum_of, figures_in}

sum_last : (n : ℕ) (ns : List ℕ) → sum_of (suc n) ns ≡ sum_of n ns + get_or ns n 0
unfolding sum_of
sum_last zero [] = refl
sum_last (suc n) [] = refl
sum_last zero (m ∷ ns) = omega arith
sum_last (suc n) (m ∷ ns) = omega (arith, sum_last n ns)

module _ (rows : List ℕ) (at : ℕ) where
  pub sum_next : (n : ℕ) → sum_of (n + 1) (drop at rows) ≡ sum_of n (drop at rows) + get_or rows (at + n) 0
  sum_next n = rw (add-one n, sym (get_or-drop at rows n 0)) (sum_last n (drop at rows))

  pub sum_most : (most : ℕ) → ((i : ℕ) → get_or rows i 0 ≤ most) → (n : ℕ) → sum_of n (drop at rows) ≤ n * most
  unfolding sum_of
  sum_most most h zero = omega arith
  sum_most most h (suc n) = omega (arith, rw (add-one n) at (sum_next n), h (at + n), sum_most most h n)

-- the numbers of a part together
pub sum_part : (n : ℕ) (ns : List ℕ) → sum (take n ns) ≡ sum_of n ns
unfolding sum_of
sum_part zero ns = refl
sum_part (suc n) [] = refl
sum_part (suc n) (m ∷ ns) = sum_by-cons (λ (x : ℕ). x) m (take n ns) ∙ ap (λ (k : ℕ). m + k) (sum_part n ns)

-- the first rows, with zeros behind them, and a store in the place of the first zero
pub rows_next : (rows : List ℕ) (i : ℕ) → length rows ≡ 28 → i < 28 → set (take i rows ++ replicate (35 - i) 0) i (get_or rows i 0) ≡ take (i + 1) rows ++ replicate (35 - (i + 1)) 0
rows_next rows i n h =
    let first = take i rows in
    let rest = 35 - suc i in
    let v = get_or rows i 0 in
    let one : 35 - i ≡ suc rest = omega arith in
    rw (add-one i, one, take-suc rows i 0 (omega arith)) (set_at first 0 (replicate rest 0) v i (length-take-le i rows (omega arith)) ∙ sym (append_snoc first v (replicate rest 0)))

pub length_figures : (c : Counts) → length c.rows ≡ 28 → length (figures_in c) ≡ 35
length_figures c n = length-append c.rows _ ∙ rw n

set_append : (xs ys : List ℕ) (k v : ℕ) → set (xs ++ ys) (length xs + k) v ≡ xs ++ set ys k v
set_append [] ys k v = rw (zero-add k)
set_append (x ∷ xs) ys k v = rw (suc-add (length xs) k) (ap (λ (r : List ℕ). x ∷ r) (set_append xs ys k v))

-- seven stores behind the rows
module _ (rows : List ℕ) (n : length rows ≡ 28) where
  set_behind : (zeros : List ℕ) (k v : ℕ) → set (rows ++ zeros) (28 + k) v ≡ rows ++ set zeros k v
  set_behind zeros k v = rw (sym n) (set_append rows zeros k v)

  pub seven_stores : (a b d e f g h : ℕ) → set (set (set (set (set (set (set (rows ++ replicate 7 0) 28 a) 29 b) 30 d) 31 e) 32 f) 33 g) 34 h ≡ rows ++ (a ∷ b ∷ d ∷ e ∷ f ∷ g ∷ h ∷ [])
  seven_stores a b d e f g h = rw (set_behind _ 0 a, set_behind _ 1 b, set_behind _ 2 d, set_behind _ 3 e, set_behind _ 4 f, set_behind _ 5 g, set_behind _ 6 h)

-- What one call more adds to sums of rows, and that what is handed out is handed out by calls of the first two rows.
use mathlib.Core.Path.{◌≡◌}
use mathlib.Core.Bool.{◌&&◌}
use mathlib.Core.List.{List, [], ◌∷◌}
use Prim.Native.Nat.{ℕ, zero, suc, ◌+◌, ◌*◌, ◌<◌, ◌≤◌}
use native.Mathlib.Omega.{arith}
use lib.Dec.{leb}
use lib.ListN.{length}
use borrow.Author.Tests.{leb-true, le-leb}
use Rattle.words.specs.Numbers.{be32}
use Rattle.words.proofs.Choice.{decide, choose, and_left, and_right}
use Rattle.calls.specs.declared.status.Number.{Number}
use Rattle.calls.specs.Status.{is_given}
use Rattle.calls.specs.Buffer.{token, status_at, is_nodes}
use Rattle.calls.proofs.Heads.{asked}
use Rattle.counting.specs.declared.counts.Counts.{Counts}
use Rattle.counting.specs.Counts.{place_of, is_counted, row_of, one_more, counted_in, handed_out, counted}
use Rattle.counting.specs.Figures.{sum_of}
use Rattle.counting.proofs.Tallies.{handed_small}

-- one call more in a row adds at most one to a sum, and one where the row is among those summed
sum_more : (n i : ℕ) (rows : List ℕ) → (sum_of n rows ≤ sum_of n (one_more rows i)) × (sum_of n (one_more rows i) ≤ sum_of n rows + 1)
unfolding sum_of
sum_more zero i rows = omega arith
sum_more (suc n) i [] = omega arith
sum_more (suc n) zero (r ∷ rows) = omega arith
sum_more (suc n) (suc i) (r ∷ rows) = omega (arith, sum_more n i rows)

sum_one : (n i : ℕ) (rows : List ℕ) → i < n → i < length rows → sum_of n (one_more rows i) ≡ sum_of n rows + 1
unfolding sum_of
sum_one zero i rows h l = absurd (omega arith)
sum_one (suc n) i [] h l = absurd (omega arith)
sum_one (suc n) zero (r ∷ rows) h l = omega arith
sum_one (suc n) (suc i) (r ∷ rows) h l = omega (arith, sum_one n i rows (omega arith) (omega arith))

-- a status of 0 or 1 is its own place
pub place_low : (status : ℕ) → status ≤ 1 → place_of status ≡ status
unfolding place_of
place_low status h = rw (le-leb status 1 h)

-- between counts and later ones no more was handed out than by the calls that the first two rows have more: answered update-nodes calls; and no more operations than words
abbrev pub ByAnswered : Counts → Counts → Type 0
ByAnswered c a =
    (a.operations + c.used ≤ c.operations + a.used)
    × (a.used + 1019 * sum_of 2 c.rows ≤ c.used + 1019 * sum_of 2 a.rows)
    × (sum_of 2 c.rows ≤ sum_of 2 a.rows)

module _ (c : Counts) (number : Number) (args memory : List ℕ) where
  abbrev status : ℕ
  status = be32 args (status_at args)

  abbrev row : ℕ
  row = row_of (token args) status

  pub rows_sum : sum_of 28 (counted c number args memory).rows ≤ sum_of 28 c.rows + 1
  unfolding counted
  rows_sum = choose (is_given number && is_counted (token args) status) (λ (a : Counts). sum_of 28 a.rows ≤ sum_of 28 c.rows + 1) (λ _. (sum_more 28 row c.rows).1) (λ _. omega arith)

  module _ (size : length c.rows ≡ 28) where
    by_answered : ByAnswered c (counted_in c row (handed_out status args memory))
    unfolding handed_out
    by_answered = decide (is_nodes args && leb status 1)
        (λ e.
        let low = leb-true status 1 (and_right (is_nodes args) _ e) in
        let first : row < 2 = omega (arith, (asked 1 2 1 args (and_left _ _ e)).0, place_low status low) in
        let small = handed_small status args memory in
        let sum = sum_one 2 row c.rows first (omega arith) in
        (omega (arith, small.operations), omega (arith, small.words), omega arith))
        (λ e. rw e (omega (arith, sum_more 2 row c.rows)))

    pub handed_answered : ByAnswered c (counted c number args memory)
    unfolding counted
    handed_answered = choose (is_given number && is_counted (token args) status) (ByAnswered c) (λ _. by_answered) (λ _. omega arith)

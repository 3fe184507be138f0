-- The counts after one call more stay in bounds.
use mathlib.Core.Path.{◌≡◌, refl, ◌∙◌}
use mathlib.Core.Bool.{◌&&◌}
use mathlib.Core.List.{List, [], ◌∷◌}
use Prim.Native.Nat.{ℕ, zero, suc, ◌+◌, ◌≤◌}
use native.Mathlib.Omega.{arith}
use lib.ListN.{length, get_or, replicate, length-set}
use Rattle.words.specs.Numbers.{be32}
use Rattle.words.proofs.Choice.{choose}
use Rattle.calls.specs.declared.status.Number.{Number}
use Rattle.calls.specs.Status.{is_given}
use Rattle.calls.specs.Buffer.{token, status_at, Left}
use Rattle.counting.specs.declared.area.Tally.{Tally}
use Rattle.counting.specs.declared.counts.Counts.{Counts}
use Rattle.counting.specs.Counts.{no_counts, is_counted, one_more, counted_in, counted}
use Rattle.counting.specs.OfTrace.{counted_all}
use Rattle.counting.specs.Claims.Terms.{Within}
use Rattle.counting.specs.Inner.Terms.{Small}
use Rattle.counting.proofs.Tallies.{handed_small}

pub within_none : Within 0 no_counts
within_none = record { size = refl; rows = zeros 28; operations = omega arith; used = omega arith }
  where
    zeros : (n i : ℕ) → get_or (replicate n 0) i 0 ≤ 0
    zeros zero i = omega arith
    zeros (suc n) zero = omega arith
    zeros (suc n) (suc i) = zeros n i

more_rows : (n r i : ℕ) (l : List ℕ) → ((k : ℕ) → get_or l k 0 ≤ n) → get_or (one_more l r) i 0 ≤ n + 1
more_rows n r i [] h = omega arith
more_rows n zero zero (x ∷ l) h = omega (arith, h 0)
more_rows n zero (suc i) (x ∷ l) h = omega (arith, h (suc i))
more_rows n (suc r) zero (x ∷ l) h = omega (arith, h 0)
more_rows n (suc r) (suc i) (x ∷ l) h = more_rows n r i l (λ k. h (suc k))

pub rows_counted : (c : Counts) (number : Number) (args memory : List ℕ) → length (counted c number args memory).rows ≡ length c.rows
unfolding counted
rows_counted c number args memory =
    choose (is_given number && is_counted (token args) (be32 args (status_at args))) (λ (a : Counts). length a.rows ≡ length c.rows) (λ _. length-set c.rows _ _) (λ _. refl)

pub rows_all : (c : Counts) (xs : List Left) → length (counted_all c xs).rows ≡ length c.rows
unfolding counted_all
rows_all c [] = refl
rows_all c (x ∷ xs) = rows_all (counted c x.number x.args x.memory) xs ∙ rows_counted c x.number x.args x.memory

module _ (n : ℕ) (c : Counts) (w : Within n c) where
  pub within_later : (m : ℕ) → n ≤ m → Within m c
  within_later m h = record { size = w.size; rows = λ i. omega (arith, w.rows i); operations = omega (arith, w.operations); used = omega (arith, w.used) }

  counted_within : (row : ℕ) (more : Tally) → Small more → Within (n + 1) (counted_in c row more)
  counted_within row more s =
      record {
        size = length-set c.rows row _ ∙ w.size;
        rows = λ i. more_rows n row i c.rows w.rows;
        operations = omega (arith, w.operations, s.operations);
        used = omega (arith, w.used, s.words);
      }

  -- one call more
  pub within_more : (number : Number) (args memory : List ℕ) → Within (n + 1) (counted c number args memory)
  unfolding counted
  within_more number args memory =
      choose (is_given number && is_counted (token args) (be32 args (status_at args))) (Within (n + 1))
      (λ _. counted_within _ _ (handed_small _ args memory))
      (λ _. within_later (n + 1) (omega arith))

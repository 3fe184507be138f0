-- Counting anew: the recount of no bytes, of two journals joined, and how large its counts can be.
use mathlib.Core.Path.{◌≡◌, refl}
use mathlib.Core.Bool.{true}
use mathlib.Core.List.{List, [], ◌++◌}
use Prim.Native.Nat.{ℕ, ◌≤◌}
use native.Mathlib.Omega.{arith}
use lib.Dec.{leb}
use lib.ListN.{length}
use borrow.Author.Tests.{le-leb}
use Rattle.records.specs.Records.{records_from, records}
use Rattle.records.specs.Choosing.{chosen_by}
use Rattle.journal.specs.Journal.{well_formed, entries}
use Rattle.journal.specs.Scope.{Selection}
use Rattle.journal.specs.Reportable.{chosen, counts_of}
use Rattle.journal.proofs.Entries.{operations_few}
use Rattle.journal.proofs.Joins.{counts_join}
use Rattle.stretch.specs.Packed.{row}
use Rattle.tallies.specs.Tallies.{recount_of, no_tallies, tally_sum, counts_within, tallies_within}

pub recount_none : recount_of [] ≡ no_tallies
unfolding recount_of entries records records_from chosen_by
recount_none = refl

pub recount_join : (a b : List ℕ) → well_formed a ≡ true → recount_of (a ++ b) ≡ tally_sum (recount_of a) (recount_of b)
unfolding recount_of
recount_join a b w = rw (counts_join a b w (row 0), counts_join a b w (row 1), counts_join a b w (row 2), counts_join a b w (row 3))

-- no count is above the number of bytes
module _ (limit : ℕ) (j : List ℕ) (h : length j ≤ limit) where
  counts_within_lem : (sel : Selection) → counts_within limit (counts_of sel j) ≡ true
  counts_within_lem sel =
      let few : (code : ℕ) → leb (length (chosen sel code (entries j))) limit ≡ true = λ code. le-leb _ limit (omega (arith, operations_few sel j code)) in
      rw (few 1, few 2, few 3)

  pub recount_within : tallies_within limit (recount_of j) ≡ true
  unfolding tallies_within recount_of
  recount_within = rw (counts_within_lem (row 0), counts_within_lem (row 1), counts_within_lem (row 2), counts_within_lem (row 3))

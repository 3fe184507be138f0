-- The tallies of a journal (document 02, M-106).
use Rattle.std.specs.Prelude.{ℕ, ◌+◌, Bool, cond, ◌&&◌, List, leb, Option, Some, None}
use Rattle.journal.specs.declared.counts.Counts.{Counts}
use Rattle.journal.specs.Journal.{well_formed}
use Rattle.journal.specs.Reportable.{counts_of}
use Rattle.stretch.specs.Packed.{row}
use Rattle.tallies.specs.declared.tallies.Tallies.{Tallies}

-- the four rows, each by a definition over its number
abbrev pub by_row : (ℕ → Counts) → Tallies
by_row f = record { negative = f 0; first = f 1; second = f 2; third = f 3 }

-- "how many operations a scope holds": counted anew over the journal's reportable lists
unfoldable pub recount_of : List ℕ → Tallies
recount_of j = by_row (λ n. counts_of (row n) j)

abbrev pub no_counts : Counts
no_counts = record { deletes = 0; updates = 0; additions = 0 }

-- the tallies of an empty journal: "zero tallies"
abbrev pub no_tallies : Tallies
no_tallies = by_row (λ _. no_counts)

-- a malformed or oversized journal has no tallies
unfoldable pub recount_for : List ℕ → Option Tallies
recount_for j = cond (well_formed j) (Some (recount_of j)) None

-- ---- sums, and limits

abbrev pub count_sum : Counts → Counts → Counts
count_sum a b = record { deletes = a.deletes + b.deletes; updates = a.updates + b.updates; additions = a.additions + b.additions }

abbrev pub tally_sum : Tallies → Tallies → Tallies
tally_sum a b = record {
  negative = count_sum a.negative b.negative;
  first = count_sum a.first b.first;
  second = count_sum a.second b.second;
  third = count_sum a.third b.third;
}

abbrev pub counts_within : ℕ → Counts → Bool
counts_within limit c = leb c.deletes limit && (leb c.updates limit && leb c.additions limit)

unfoldable pub tallies_within : ℕ → Tallies → Bool
tallies_within limit t = counts_within limit t.negative && (counts_within limit t.first && (counts_within limit t.second && counts_within limit t.third))

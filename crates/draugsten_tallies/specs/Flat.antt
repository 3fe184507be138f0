-- Tallies and what is kept of a journal, as they cross the C boundary (document 02, M-106).
use Rattle.std.specs.Prelude.{ℕ, Bool, cond, List, Option, Some, None}
use Rattle.journal.specs.declared.counts.Counts.{Counts}
use Rattle.tallies.specs.declared.tallies.Tallies.{Tallies}
use Rattle.tallies.specs.declared.keeping.Tallied.{Tallied}
use Rattle.tallies.specs.declared.keeping.Refusal.{Refusal}
use Rattle.tallies.specs.declared.keeping.Refusal.TheVariants.{Malformed, NoRoom, Unfit}
use Rattle.tallies.specs.Keeping.{Left}
use Rattle.draugsten_tallies.specs.declared.flat.FlatCounts.{FlatCounts}
use Rattle.draugsten_tallies.specs.declared.flat.FlatTallies.{FlatTallies}
use Rattle.draugsten_tallies.specs.declared.flat.FlatTallied.{FlatTallied}

abbrev pub flat_counts : Counts → FlatCounts
flat_counts c = record { deletes = c.deletes; updates = c.updates; additions = c.additions }

abbrev pub counts_from : FlatCounts → Counts
counts_from f = record { deletes = f.deletes; updates = f.updates; additions = f.additions }

abbrev pub flat_tallies : Tallies → FlatTallies
flat_tallies t = record { negative = flat_counts t.negative; first = flat_counts t.first; second = flat_counts t.second; third = flat_counts t.third }

abbrev pub tallies_from : FlatTallies → Tallies
tallies_from f = record { negative = counts_from f.negative; first = counts_from f.first; second = counts_from f.second; third = counts_from f.third }

abbrev pub flat_tallied : Tallied → FlatTallied
flat_tallied t = record { used = t.used; tallies = flat_tallies t.tallies }

abbrev pub tallied_from : FlatTallied → Tallied
tallied_from f = record { used = f.used; tallies = tallies_from f.tallies }

-- 0 done, 50 malformed, 51 no room, 52 a use or a count that no journal in the buffer has
abbrev pub outcome_number : Option Refusal → ℕ
outcome_number None = 0
outcome_number (Some Malformed) = 50
outcome_number (Some NoRoom) = 51
outcome_number (Some Unfit) = 52

abbrev pub good_number : Bool → ℕ
good_number good = cond good 0 50

-- All that an operation leaves, with the use and the tallies as they cross.
pub record FlatLeft : Type 0 where
  pub number : ℕ
  pub buffer : List ℕ
  pub journal : FlatTallied

abbrev pub flat_leaves : ℕ → List ℕ → FlatTallied → FlatLeft
flat_leaves number buffer journal = record { number = number; buffer = buffer; journal = journal }

abbrev pub flat_left : Left → FlatLeft
flat_left x = flat_leaves (outcome_number x.outcome) x.buffer (flat_tallied x.next)

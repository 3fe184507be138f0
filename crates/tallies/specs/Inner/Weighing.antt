-- What a buffer counts, and sums that can be made: terms of contracts inside; no public promise cites them.
use Rattle.std.specs.Prelude.{ℕ, ◌+◌, ◌<◌, ◌≡◌, true, cond, List, length, Option, Some, None}
use Rattle.records.specs.Records.{records}
use Rattle.journal.specs.declared.counts.Counts.{Counts}
use Rattle.journal.specs.Journal.{well_formed}
use Rattle.scanning.specs.Inner.Terms.{unpacked}
use Rattle.stretch.specs.declared.packed.Packed.{Packed}
use Rattle.tallies.specs.declared.tallies.Tallies.{Tallies}
use Rattle.tallies.specs.declared.counting.Weighed.{Weighed}
use Rattle.tallies.specs.declared.keeping.Tallied.{Tallied}
use Rattle.tallies.specs.Tallies.{recount_of, tally_sum, tallies_within}

-- the tallies that packed counts are
abbrev pub tallies_from : Packed → Tallies
tallies_from p = record { negative = unpacked p.negative; first = unpacked p.first; second = unpacked p.second; third = unpacked p.third }

-- a journal: how many records it has, and its tallies
unfoldable pub weighed_of : List ℕ → Option Weighed
weighed_of j = cond (well_formed j) (Some (record { records = length (records j); tallies = recount_of j })) None

-- no sum of two counts passes 64 bits
pub record CountsFit (a b : Counts) : Type 0 where
  pub deletes : a.deletes + b.deletes < 0x1_0000_0000_0000_0000
  pub updates : a.updates + b.updates < 0x1_0000_0000_0000_0000
  pub additions : a.additions + b.additions < 0x1_0000_0000_0000_0000

pub record TalliesFit (a b : Tallies) : Type 0 where
  pub negative : CountsFit a.negative b.negative
  pub first : CountsFit a.first b.first
  pub second : CountsFit a.second b.second
  pub third : CountsFit a.third b.third

-- so many bytes more in use, with what they count
abbrev pub extended_by : Tallied → ℕ → Packed → Tallied
extended_by t more counts = record { used = t.used + more; tallies = tally_sum t.tallies (tallies_from counts) }

-- that can be counted: no count is above the use, and packed counts have 21 bits each
pub record Extends (t : Tallied) (more : ℕ) : Type 0 where
  pub within : tallies_within t.used t.tallies ≡ true
  pub narrow : t.used + more + 2_097_152 < 0x1_0000_0000_0000_0000

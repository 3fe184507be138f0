-- Whole good records one behind the other, from one place of a buffer to another.
use Rattle.std.specs.Prelude.{ℕ, ◌+◌, ◌*◌, ◌-◌, ◌≤◌, ◌<◌, ◌≡◌, Bool, true, false, List, length, take, drop}
use Rattle.records.specs.Records.{records, all_good, size_limit}
use Rattle.journal.specs.Journal.{good_record}
use Rattle.scanning.specs.Inner.Terms.{largest_weight}
use Rattle.stretch.specs.declared.packed.Packed.{Packed}
use Rattle.stretch.specs.declared.steps.Stretch.{Stretch}
use Rattle.stretch.specs.Packed.{packed_of, no_packed, plus}

-- the bytes from one place to another
abbrev pub between : List ℕ → ℕ → ℕ → List ℕ
between j from to = take (to - from) (drop from j)

abbrev pub nothing : Stretch
nothing = record { end = 0; records = 0; counts = no_packed }

-- From one stretch to a longer one: whole good records alone stand between their ends, and number and counts grew by theirs.
pub record Goes (j : List ℕ) (from to : Stretch) : Type 0 where
  pub onward : from.end ≤ to.end
  pub inside : to.end ≤ length j
  pub good : all_good good_record (records (between j from.end to.end)) ≡ true
  pub number : to.records ≡ from.records + length (records (between j from.end to.end))
  pub counts : to.counts ≡ plus from.counts (packed_of (between j from.end to.end))

-- no more than so many operations in a row
pub record Few (n : ℕ) (c : Packed) : Type 0 where
  pub negative : c.negative ≤ n * largest_weight
  pub first : c.first ≤ n * largest_weight
  pub second : c.second ≤ n * largest_weight
  pub third : c.third ≤ n * largest_weight

-- A stretch that can go on: no record without a byte, no more operations in a row than records, over a buffer that is no larger than a journal may be.
pub record Light (j : List ℕ) (s : Stretch) : Type 0 where
  pub small : length j ≤ size_limit
  pub inside : s.end ≤ length j
  pub number : s.records ≤ s.end
  pub few : Few s.records s.counts

-- it ends with the buffer, or where no such record stands
abbrev pub Ends : (List ℕ → ℕ → Bool) → List ℕ → Stretch → Type 0
Ends here j s = s.end < length j → here j s.end ≡ false

-- Terms of contracts inside the crate.
-- Terms of the contracts of private functions; no public promise cites them.
use Rattle.std.specs.Prelude.{ℕ, ◌+◌, ◌*◌, ◌<◌, ◌-◌, ◌/◌, ◌%◌, ◌^◌, ◌≤◌, List, ◌≡◌, true, false, length, drop}
use Rattle.stretch.specs.declared.packed.Packed.{Packed}
use Rattle.stretch.specs.Packed.{row, packed_of, plus}
use Rattle.words.specs.Numbers.{le}
use Rattle.records.specs.Records.{size_of, first_record}
use Rattle.journal.specs.Holding.{good_here}
use Rattle.stretch.specs.declared.steps.Stretch.{Stretch}
use Rattle.stretch.specs.declared.steps.Same.{Same}
use Rattle.stretch.specs.Inner.Stretches.{Few}

abbrev pub times : ℕ → Packed → Packed
times n a = record { negative = n * a.negative; first = n * a.first; second = n * a.second; third = n * a.third }

-- each is a number of 64 bits
pub record Narrow (a : Packed) : Type 0 where
  pub negative : a.negative < 0x1_0000_0000_0000_0000
  pub first : a.first < 0x1_0000_0000_0000_0000
  pub second : a.second < 0x1_0000_0000_0000_0000
  pub third : a.third < 0x1_0000_0000_0000_0000

-- the bit of an opcode in a row's number, three bits for each node type
abbrev pub bit_of : ℕ → ℕ → ℕ → ℕ
bit_of row node code = row / 2 ^ (3 * node + (code - 1)) % 2

-- so many records of a size more, each of this weight
abbrev pub grown_by : Stretch → ℕ → ℕ → Packed → Stretch
grown_by s n size weight = record { end = s.end + n * size; records = s.records + n; counts = plus s.counts (times n weight) }

-- that can be counted: they end within a journal, and no row counts one of them twice
pub record Grows (s : Stretch) (n size : ℕ) (weight : Packed) : Type 0 where
  pub inside : s.end + n * size ≤ 1_048_576
  pub number : s.records + n ≤ 1_048_576
  pub few : Few s.records s.counts
  pub once : Few 1 weight

-- a good record stands at a place, of this size, and adds this weight
pub record Adds (j : List ℕ) (at size : ℕ) (weight : Packed) : Type 0 where
  pub good : good_here j at ≡ true
  pub size_is : size_of (drop at j) ≡ size
  pub weight_is : weight ≡ packed_of (first_record (drop at j))

-- wherever this header stands and the size fits, there is a good record of a node of this size, which adds this weight
pub record Known (j : List ℕ) (s : Same) : Type 0 where
  pub large : 10 ≤ s.size
  pub small : s.size ≤ 18
  pub once : Few 1 s.weight
  pub here : (at : ℕ) → at + s.size ≤ length j → le 6 j at ≡ s.header → Adds j at s.size s.weight

-- a stride stays only where no good record stands
abbrev pub Moves : List ℕ → Stretch → Stretch → Type 0
Moves j from to = to.end ≡ from.end → good_here j from.end ≡ false

-- Terms of the contracts of private functions of the scan; no public promise cites them.
use Rattle.std.specs.Prelude.{◌≡◌, ℕ, ◌+◌, ◌-◌, ◌*◌, ◌/◌, ◌%◌, ◌^◌, ◌<◌, ◌≤◌, Bool, true, false, Option, Some, None, cond, ◌&&◌, List, length, drop, ◌==◌, slice_index}
use Rattle.words.specs.Numbers.{le, le16}
use Rattle.records.specs.Records.{kind_of, size_of, records, all_good}
use Rattle.journal.specs.declared.counts.Counts.{Counts}
use Rattle.journal.specs.declared.marks.Mark.{Mark}
use Rattle.scanning.specs.declared.stride.Same.{Same}
use Rattle.journal.specs.Journal.{good_record, well_formed, IsOpcode}
use Rattle.journal.specs.Holding.{property_here}
use Rattle.journal.specs.Scope.{holds, Selection}
use Rattle.journal.specs.Marks.{count_limit, count}
use Rattle.journal.specs.Terms.{opcode_for, node_here, asked}
use Rattle.journal.specs.Inner.Terms.{Before}

-- a good record of kind 4 stands at a place
pub record UnitHere (j : List ℕ) (at : ℕ) : Type 0 where
  pub good : node_here j at ≡ true
  pub kind_is : kind_of (drop at j) ≡ 4

-- packed counts are below this, and the largest that one operation adds is this
abbrev pub packed_limit : ℕ
packed_limit = 0x8000_0000_0000_0000

abbrev pub largest_weight : ℕ
largest_weight = 4_398_046_511_104

-- a scan has come to a place over good records alone, and has counted what the selection reports of them
pub record Reached (selection : Selection) (j : List ℕ) (p : Mark) : Type 0 where
  pub inside : p.at ≤ length j
  pub good : all_good good_record (records j) ≡ all_good good_record (records (drop p.at j))
  pub before : (code : ℕ) → IsOpcode code → Before selection j p.at code (count code p.counts)
  pub few : count 1 p.counts + count 2 p.counts + count 3 p.counts ≤ p.at
  pub packed : p.counts < packed_limit

-- from one place to another stand records of properties alone, so that a scan that came to the one comes to the other; where both are the same, none
-- stands there
pub record Passed (j : List ℕ) (from at : ℕ) : Type 0 where
  pub reached : (selection : Selection) (counts : ℕ) → Reached selection j (record { at = from; counts = counts })
      → Reached selection j (record { at = at; counts = counts })
  pub onward : from ≤ at
  pub none : at ≡ from → property_here j from ≡ false

-- what a step along the journal gives: a bad record, or a position at or behind an end
abbrev pub Advanced : Selection → List ℕ → ℕ → Option Mark → Type 0
Advanced selection j end None = well_formed j ≡ false
Advanced selection j end (Some p) = Reached selection j p × (end ≤ p.at)

-- what a good record of a unit that is asked for adds to the packed counts
abbrev pub weight_of : List ℕ → ℕ → ℕ → ℕ
weight_of sets kind node = cond (holds (slice_index sets node) (opcode_for kind)) (count_limit ^ (opcode_for kind - 1)) 0

abbrev pub Weights : List ℕ → List ℕ → Type 0
Weights sets table = (i : ℕ) → 32 ≤ i → i < 160 → slice_index table i ≡ weight_of sets (i / 32) (i % 32)

-- a good record of this size stands at a place, and adds this weight
pub record Weighed (selection : Selection) (j : List ℕ) (at size weight : ℕ) : Type 0 where
  pub size_is : size_of (drop at j) ≡ size
  pub good : node_here j at ≡ true
  pub weight_is : weight ≡ asked selection.units j at (weight_of selection.sets (kind_of (drop at j)) (le16 j (at + 4)))

-- the six bytes of a record's length, kind and node type, as one number, at four places a size apart
abbrev pub four_headed : List ℕ → ℕ → ℕ → ℕ → Bool
four_headed j header size at = le 6 j at == header && (le 6 j (at + size) == header
    && (le 6 j (at + 2 * size) == header && le 6 j (at + 3 * size) == header))

-- wherever this header stands and the size fits, there is a good record of this size, which adds this weight
pub record Known (selection : Selection) (j : List ℕ) (s : Same) : Type 0 where
  pub large : 10 ≤ s.size
  pub small : s.size ≤ 18
  pub narrow : s.weight ≤ largest_weight
  pub here : (at : ℕ) → at + s.size ≤ length j → le 6 j at ≡ s.header → Weighed selection j at s.size s.weight

abbrev pub unpacked : ℕ → Counts
unpacked packed = record { deletes = count 1 packed; updates = count 2 packed; additions = count 3 packed }

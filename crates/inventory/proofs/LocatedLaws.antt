-- The parts of a record where they stand in the inventory.
use mathlib.Core.Path.{◌≡◌, ap, ◌∙◌}
use mathlib.Core.List.{List}
use Prim.Native.Nat.{ℕ, ◌+◌, ◌-◌, ◌≤◌}
use native.Mathlib.Omega.{arith}
use lib.ListN.{length, take, drop, length-drop}
use lib.Seq.{length-take-le, take-add, drop_at, drop-drop}
use Rattle.words.specs.Numbers.{le32}
use Rattle.records.specs.Records.{size_of, first_record}
use Rattle.records.proofs.Steps.{field_at}
use Rattle.inventory.specs.declared.locating.Located.{Located}
use Rattle.inventory.specs.Inventory.{code_limit, head_size, index_of, code_of}
use Rattle.inventory.specs.Inner.Judging.{Readable}
use Rattle.inventory.specs.Listing.{entry_of}
use Rattle.inventory.specs.Inner.Located.{located_at, entry_in}
use Rattle.inventory.proofs.RecordLaws.{code_length_lem}

-- the code that stands where it is told has the length that is told
pub code_sized : (s : List ℕ) (l : Located) → l.start + l.length ≤ length s → length (entry_in s l).code ≡ l.length
code_sized s l h = length-take-le l.length (drop l.start s) (rw length-drop (omega arith))

module _ {s : List ℕ} {at : ℕ} (r : Readable s at) where
  index_at : index_of (first_record (drop at s)) ≡ le32 s (at + 10)
  unfolding index_of
  index_at = field_at s at 4 10 (omega arith)

  code_at : code_of (first_record (drop at s)) ≡ take (size_of (drop at s) - head_size) (drop (at + head_size) s)
  unfolding code_of
  code_at =
      let here = drop at s in
      let n = size_of here - head_size in
      let parts : size_of here ≡ head_size + n = omega arith in
      ap (λ (k : ℕ). drop head_size (take k here)) parts ∙ ap (drop head_size) (take-add head_size n here)
      ∙ drop_at (take head_size here) _ head_size (length-take-le head_size here (omega (arith, length-drop at s))) ∙ ap (take n) (drop-drop head_size at s)

  -- by what the code reads
  pub located_read : (size index : ℕ) → size ≡ size_of (drop at s) → index ≡ le32 s (at + 10) → record { size = size; index = index; start = at + head_size; length = size - head_size } ≡ located_at s at
  located_read size index p q = rw (index_at, code_length_lem s at r, ← p, ← q)

  pub located_entry : entry_in s (located_at s at) ≡ entry_of (first_record (drop at s))
  located_entry = rw (code_length_lem s at r, code_at)

  pub located_inside : (located_at s at).start + (located_at s at).length ≤ length s
  located_inside = omega (arith, code_length_lem s at r)

  pub located_few : (located_at s at).length ≤ code_limit
  located_few = omega (arith, code_length_lem s at r)

-- The size of a good record of any kind, and what the code reads of it.
use mathlib.Core.Path.{◌≡◌, sym, ◌∙◌}
use mathlib.Core.Bool.{true}
use mathlib.Core.List.{List}
use Prim.Native.Nat.{ℕ, ◌+◌, ◌-◌, ◌≤◌}
use native.Mathlib.Omega.{arith}
use lib.Dec.{leb}
use lib.ListN.{length, drop}
use borrow.Author.Tests.{leb-true}
use Rattle.words.specs.Numbers.{le32}
use Rattle.words.proofs.Choice.{decide, and_left, and_right}
use Rattle.records.specs.Records.{length_of, kind_of, size_of, first_record, whole}
use Rattle.records.proofs.Steps.{field_at, record_length, record_kind, whole_at}
use Rattle.journal.specs.Property.{phandle_of, good_property}
use Rattle.journal.specs.Journal.{good_node, good_record}
use Rattle.journal.specs.Holding.{good_here}
use Rattle.journal.proofs.PropertyLaws.{value_most_le, property_framed}
use Rattle.journal.proofs.RecordLaws.{framed}

pub bounds : (r : List ℕ) → good_record r ≡ true → (8 ≤ length_of r) × (length_of r ≤ 32_806)
unfolding good_record good_node good_property
bounds r good = decide (good_node r)
    (λ n. omega (arith, framed (length_of r) (kind_of r) (and_left _ _ n)))
    (λ n. omega (arith, property_framed (length_of r) (kind_of r) (and_left _ _ (rw n at good)), value_most_le (kind_of r)))

module _ (j : List ℕ) (at : ℕ) (good : good_here j at ≡ true) where
  pub sized_here : (8 ≤ length_of (drop at j)) × (at + size_of (drop at j) ≤ length j)
  sized_here =
      let fits = and_right (leb 2 (length_of (drop at j))) _ (sym (whole_at j at) ∙ and_left _ _ good) in
      let large = bounds (first_record (drop at j)) (and_right (whole (first_record (drop at j))) _ good) in
      (omega (arith, large, record_length j at), omega (arith, leb-true (size_of (drop at j)) (length j - at) fits))

  pub kind_read : kind_of (first_record (drop at j)) ≡ kind_of (drop at j)
  kind_read = record_kind j at (omega (arith, sized_here))

  pub phandle_read : phandle_of (first_record (drop at j)) ≡ le32 j (at + 4)
  phandle_read = field_at j at 4 4 (omega (arith, sized_here))

-- What the functions that judge and read records of properties are held to.
use Rattle.std.specs.Prelude.{ℕ, ◌+◌, ◌≤◌, ◌≡◌, Bool, true, Option, Some, None, cond, ◌&&◌, List, eqb, length, drop}
use Rattle.words.specs.Numbers.{le32}
use Rattle.records.specs.Records.{kind_of, size_of, first_record, whole}
use Rattle.journal.specs.declared.property.PropertyRecord.{PropertyRecord}
use Rattle.journal.specs.Property.{name_of, good_property}
use Rattle.journal.specs.Journal.{good_record}

-- a good record stands at a place, and one of a property
abbrev pub good_here : List ℕ → ℕ → Bool
good_here j at = whole (first_record (drop at j)) && good_record (first_record (drop at j))

abbrev pub property_here : List ℕ → ℕ → Bool
property_here j at = whole (first_record (drop at j)) && good_property (first_record (drop at j))

-- the record of a property at a place by its parts
abbrev pub property_in : List ℕ → ℕ → PropertyRecord
property_in j at =
    record {
      size = size_of (drop at j);
      phandle = le32 j (at + 4);
      deleted = eqb (kind_of (drop at j)) 6;
      name_length = length (name_of (first_record (drop at j)));
    }

-- a good record of a property stands at a place, or something else
abbrev pub held_at : List ℕ → ℕ → Option PropertyRecord
held_at j at = cond (property_here j at) (Some (property_in j at)) None

pub record HoldsProperty (j : List ℕ) (at : ℕ) : Type 0 where
  pub inside : at ≤ length j
  pub good : property_here j at ≡ true

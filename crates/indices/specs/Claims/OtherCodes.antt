-- The writer over two inventories that differ only in the codes of other flags and types (document 02, M-102).
use Rattle.std.specs.Prelude.{ℕ, ◌-◌, ◌≡◌, List, length}
use Rattle.records.specs.Records.{records}
use Rattle.inventory.specs.Listing.{Entry, listed}
use Rattle.inventory.specs.Claims.Scanning.{ahead}
use Rattle.inventory.specs.Claims.Search.{place_of, OtherCodes}
use Rattle.indices.specs.Area.{fitting, run, area_after}
use Rattle.indices.specs.Claims.Writing.{DueEntries}

-- two runs of one number of entries, which leave an area the same
abbrev pub SameAnswer : List ℕ → List Entry → List Entry → Type 0
SameAnswer area es fs = (length es ≡ length fs) × (area_after area es ≡ area_after area fs)

-- 02: "the search alone answers and writes the same."
pub record WritesAlike (flag type : ℕ) (i k : List ℕ) : Type 0 where
  -- where the writer may begin in the first, at the place of a record, it may in the second
  pub asked : (number n count : ℕ) → DueEntries flag type number i (place_of n (records i)) count → DueEntries flag type number k (place_of n (records i)) count
  -- from the place of every record on it answers and writes the same
  pub onward : (n : ℕ) (area : List ℕ)
      → SameAnswer area (fitting (length area - 4) (ahead flag type i (place_of n (records i))))
      (fitting (length area - 4) (ahead flag type k (place_of n (records i))))
  -- and so from every Starting Number on, over the whole list
  pub list : listed flag type i ≡ listed flag type k
  pub whole : (number : ℕ) (area : List ℕ) → SameAnswer area (run (length area) number (listed flag type i)) (run (length area) number (listed flag type k))

abbrev pub WriterAgrees : Type 0
WriterAgrees = (flag type : ℕ) (i k : List ℕ) → OtherCodes flag type i k → WritesAlike flag type i k

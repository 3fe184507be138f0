-- Terms of contracts inside the crate.
use Rattle.std.specs.Prelude.{ℕ, ◌+◌, ◌-◌, ◌≤◌, ◌≡◌, true, false, List, length, drop, Option, None, Some}
use Rattle.records.specs.Records.{records, all_good}
use Rattle.inventory.specs.declared.scanning.Counted.{Counted}
use Rattle.inventory.specs.Inventory.{good_record, well_formed}
use Rattle.inventory.specs.Listing.{listed}
use Rattle.inventory.specs.Claims.Scanning.{ahead}

-- Cut into records from this place on, the inventory is as good as the whole, and its list is that of the whole from an entry on.
pub record ResumesAt (flag type : ℕ) (inventory : List ℕ) (passed at : ℕ) : Type 0 where
  pub inside : at ≤ length inventory
  pub sound : all_good good_record (records inventory) ≡ all_good good_record (records (drop at inventory))
  pub number : length (listed flag type inventory) ≡ passed + length (ahead flag type inventory at)
  pub rest : drop passed (listed flag type inventory) ≡ ahead flag type inventory at

-- The inventory is malformed; or the number of entries of the flag and type, and, if there is an entry due, a place from which on the list holds the
-- entries from that one on.
abbrev pub ScanFinds : ℕ → ℕ → ℕ → List ℕ → Option Counted → Type 0
ScanFinds flag type number inventory None = well_formed inventory ≡ false
ScanFinds flag type number inventory (Some c) =
    (well_formed inventory ≡ true) × (c.count ≡ length (listed flag type inventory))
    × (1 ≤ number → number ≤ c.count → ResumesAt flag type inventory (number - 1) c.due)

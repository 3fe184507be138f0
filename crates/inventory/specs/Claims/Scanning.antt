-- What is claimed of the definitions of `Scanning`.
use Rattle.std.specs.Prelude.{ℕ, ◌≤◌, ◌≡◌, true, List, length, drop}
use Rattle.records.specs.Records.{records, all_good}
use Rattle.inventory.specs.Listing.{Entry, chosen}
use Rattle.inventory.specs.Claims.Search.{good_for}

-- the entries of the flag and type from a place on
abbrev pub ahead : ℕ → ℕ → List ℕ → ℕ → List Entry
ahead flag type inventory at = chosen flag type (records (drop at inventory))

-- The bytes from this place on, which may be the end, are records that are good for the search.
pub record GoodFrom (flag type : ℕ) (inventory : List ℕ) (at : ℕ) : Type 0 where
  pub inside : at ≤ length inventory
  pub good : all_good (good_for flag type) (records (drop at inventory)) ≡ true

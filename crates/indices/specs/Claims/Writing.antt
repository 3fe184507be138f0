-- What the writer of an index area is given.
use Rattle.std.specs.Prelude.{ℕ, ◌-◌, ◌≤◌, ◌≡◌, List, length, drop}
use Rattle.records.specs.Records.{size_limit}
use Rattle.inventory.specs.Listing.{listed}
use Rattle.inventory.specs.Claims.Scanning.{ahead, GoodFrom}

-- The place where the search for the entry due begins, and the number of entries from that one on.
pub record DueEntries (flag type number : ℕ) (inventory : List ℕ) (from count : ℕ) : Type 0 where
  pub onward : GoodFrom flag type inventory from
  pub rest : drop (number - 1) (listed flag type inventory) ≡ ahead flag type inventory from
  pub counted : count ≡ length (ahead flag type inventory from)
  pub few : count ≤ size_limit

-- A good record of the inventory exactly when, and what one record adds to the list of a flag and type (document 01, "Journal and inventory", "get-indices";
-- document 02, M-113). Cited by the contract of `scan`.
use Rattle.std.specs.Prelude.{ℕ, ◌≤◌, ◌≡◌, true, cond, ◌&&◌, List, [], ◌∷◌, ◌++◌, eqb, length, drop}
use Rattle.words.specs.Numbers.{le}
use Rattle.words.specs.Claims.Exactly.{Exactly, NonZero}
use Rattle.records.specs.Records.{whole}
use Rattle.inventory.specs.Inventory.{good_record, well_formed}
use Rattle.inventory.specs.Listing.{Entry, listed}

-- "kind 16 holds two bytes (0 indicator, 1 sensor), a four-byte type, a four-byte index and a location code of 1 to 79 non-zero bytes; length 12 plus
-- the code."
-- 02, M-113: "codes up to 1,023 bytes". Type and index are any.
pub record Good (r : List ℕ) : Type 0 where
  pub kind : le 2 r 2 ≡ 16
  pub flag : le 2 r 4 ≤ 1
  pub some : 1 ≤ length (drop 14 r)
  pub few : length (drop 14 r) ≤ 1023
  pub non_zero : NonZero (drop 14 r)

-- "Any other kind, length, node type or flag, a NUL in a code, .. is malformed.", of a record that nothing cuts off
abbrev pub InventoryRecordExactly : Type 0
InventoryRecordExactly = (r : List ℕ) → whole r ≡ true → Exactly (good_record r ≡ true) (Good r)

-- what one record adds to the list of a flag and type
abbrev pub adds : ℕ → ℕ → List ℕ → List Entry
adds flag type r = cond (eqb (le 2 r 4) flag && eqb (le 4 r 6) type) (record { index = le 4 r 10; code = drop 14 r } ∷ []) []

pub record ListedExactly : Type 0 where
  pub empty : (flag type : ℕ) → listed flag type [] ≡ []
  pub each : (flag type : ℕ) (r rest : List ℕ) → whole r ≡ true → listed flag type (r ++ rest) ≡ adds flag type r ++ listed flag type rest
  -- of two inventories end to end, one list after the other
  pub end_to_end : (flag type : ℕ) (a b : List ℕ) → well_formed a ≡ true → listed flag type (a ++ b) ≡ listed flag type a ++ listed flag type b

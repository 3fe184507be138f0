-- The entries of a flag and type (document 01, "get-indices").
use Rattle.std.specs.Prelude.{ℕ, Bool, ◌&&◌, List, eqb}
use Rattle.records.specs.Records.{records}
use Rattle.records.specs.Choosing.{chosen_by}
use Rattle.inventory.specs.Inventory.{flag_of, type_of, index_of, code_of}

-- an entry of a list: an index and its location code
pub record Entry : Type 0 where
  pub index : ℕ
  pub code : List ℕ

abbrev pub entry_of : List ℕ → Entry
entry_of r = record { index = index_of r; code = code_of r }

unfoldable pub matches : ℕ → ℕ → List ℕ → Bool
matches flag type r = eqb (flag_of r) flag && eqb (type_of r) type

-- the entries of a flag and type, in the inventory's order
abbrev pub chosen : ℕ → ℕ → List (List ℕ) → List Entry
chosen flag type rs = chosen_by (matches flag type) entry_of rs

unfoldable pub listed : ℕ → ℕ → List ℕ → List Entry
listed flag type inventory = chosen flag type (records inventory)

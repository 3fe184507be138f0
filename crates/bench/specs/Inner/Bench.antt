-- What the measured functions answer.
use Rattle.std.specs.Prelude.{ℕ, cond, List, [], ◌∷◌, length}
use Rattle.journal.specs.Journal.{well_formed}
use Rattle.inventory.specs.Inventory as inventory
use Rattle.inventory.specs.Listing.{Entry, listed}
use Rattle.journal.specs.Scope.{selection_of}
use Rattle.journal.specs.Reportable.{reportable}

-- the length of the reportable list, in scope 3 of a unit, or the highest number for a malformed journal
unfoldable pub reported_of : ℕ → ℕ → List ℕ → ℕ
reported_of scope unit j = cond (well_formed j) (length (reportable (selection_of scope unit) j)) 0xffff_ffff_ffff_ffff

-- the number of entries of a flag and type, or the highest number for a malformed inventory
unfoldable pub listed_of : ℕ → ℕ → List ℕ → ℕ
listed_of flag type i = cond (inventory.well_formed i) (length (listed flag type i)) 0xffff_ffff_ffff_ffff

-- the index of the last entry, or another number where there is none
unfoldable pub last_index : ℕ → List Entry → ℕ
last_index none [] = none
last_index none (e ∷ es) = last_index e.index es

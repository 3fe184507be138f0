-- Entries that an inventory can hold.
use Rattle.std.specs.Prelude.{◌<◌, ◌≡◌, true, List, [], ◌∷◌}
use Rattle.inventory.specs.Inventory.{good_code}
use Rattle.inventory.specs.Listing.{Entry}

-- every index has 32 bits, and every code is good
unfoldable pub Sound : List Entry → Type 0
Sound [] = Unit {0}
Sound (e ∷ es) = (e.index < 0x1_0000_0000) × (good_code e.code ≡ true) × Sound es

-- A record as the code reads it where it stands.
use Rattle.std.specs.Prelude.{ℕ, ◌+◌, List, length, take, drop}
use Rattle.records.specs.Records.{size_of, first_record}
use Rattle.inventory.specs.declared.locating.Located.{Located}
use Rattle.inventory.specs.Inventory.{head_size, index_of, code_of}
use Rattle.inventory.specs.Listing.{Entry}

-- the record at a place: its size, its index, and the place and length of its code
abbrev pub located_at : List ℕ → ℕ → Located
located_at inventory at =
    record {
      size = size_of (drop at inventory);
      index = index_of (first_record (drop at inventory));
      start = at + head_size;
      length = length (code_of (first_record (drop at inventory)));
    }

-- the entry that it tells
abbrev pub entry_in : List ℕ → Located → Entry
entry_in inventory l = record { index = l.index; code = take l.length (drop l.start inventory) }

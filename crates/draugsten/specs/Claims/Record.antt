-- What is claimed of the definitions of `Record`.
use Rattle.std.specs.Prelude.{ℕ, ◌+◌, ◌<◌, ◌≡◌}
use Rattle.calls.specs.Claims.Terms.{naming}
use Rattle.crossing.specs.Record.{flat_reading_of, reading_of}
use Rattle.draugsten.specs.Record.{flat_edit_of}

-- 02: "which rises by one with each edit (none is taken at the top)"
pub record EditTold : Type 0 where
  pub rises : (edition : ℕ) → edition < 0xffff_ffff → flat_edit_of edition ≡ record { taken = 1; edition = edition + 1 }
  pub top : flat_edit_of 0xffff_ffff ≡ record { taken = 0; edition = 0xffff_ffff }

-- 02: "flag, type, next Starting Number and the inventory's 32-bit edition number" cross as they are
abbrev pub ReadingCrosses : Type 0
ReadingCrosses = (flag type number edition : ℕ)
    → (reading_of (record { flag = flag; item_type = type; number = number; edition = edition }) ≡ naming flag type number edition)
    × (flat_reading_of (naming flag type number edition) ≡ record { flag = flag; item_type = type; number = number; edition = edition })

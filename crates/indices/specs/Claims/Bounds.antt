-- The bytes of an entry, and the most that one can take (document 02, M-113).
use Rattle.std.specs.Prelude.{ℕ, ◌+◌, ◌*◌, ◌/◌, ◌≤◌, ◌≡◌, true, List, [], ◌∷◌, ◌++◌, length, replicate}
use Rattle.words.specs.Numbers.{be_bytes}
use Rattle.inventory.specs.Inventory.{well_formed}
use Rattle.inventory.specs.Listing.{Entry, listed}
use Rattle.indices.specs.Area.{entry_bytes}
use Rattle.indices.specs.Claims.Longest.{taken}

pub record EntriesBounded : Type 0 where
  -- 01: "for each entry the index, the length and the code, NUL-filled to the next multiple of 4 with at least one NUL. The length counts the NULs."
  pub bytes : (e : Entry) (field : ℕ) → field ≡ 4 * (length e.code / 4 + 1) → (nuls : ℕ) → length e.code + nuls ≡ field
      → entry_bytes e ≡ be_bytes 4 e.index ++ (be_bytes 4 field ++ (e.code ++ replicate nuls 0))
  -- 01: "A code of c bytes takes 8 + 4 x (c / 4 + 1) bytes, rounding the quotient down."
  pub size : (e : Entry) → length (entry_bytes e) ≡ 8 + 4 * (length e.code / 4 + 1)
  pub together : (e : Entry) (es : List Entry) → (taken [] ≡ 0) × (taken (e ∷ es) ≡ length (entry_bytes e) + taken es)
  -- 02, M-113: "the entry size's stated bound (now 1,032 bytes)", of every entry that can be listed
  pub bound : (flag type : ℕ) (i : List ℕ) (before after : List Entry) (e : Entry) → well_formed i ≡ true → listed flag type i ≡ before ++ (e ∷ after)
      → length (entry_bytes e) ≤ 1032

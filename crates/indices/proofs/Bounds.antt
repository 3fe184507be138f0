-- The bytes of an entry, and the most that one takes.
use mathlib.Core.Path.{◌≡◌, refl}
use mathlib.Core.Bool.{true, ◌&&◌}
use mathlib.Core.List.{List, [], ◌∷◌, ◌++◌}
use Prim.Native.Nat.{ℕ, ◌+◌, ◌-◌, ◌≤◌}
use native.Mathlib.Omega.{arith}
use lib.ListN.{length, replicate, length-append, length-replicate}
use Rattle.words.specs.Numbers.{be_bytes}
use Rattle.words.proofs.Choice.{choose, and_left, and_right}
use Rattle.words.proofs.Numbers.{length_be_bytes}
use Rattle.records.specs.Records.{whole, records, all_good, size_limit}
use Rattle.records.specs.Choosing.{chosen_by}
use Rattle.records.proofs.Steps.{formed_good}
use Rattle.inventory.specs.Inventory.{code_limit, good_head, good_code, good_record, well_formed}
use Rattle.inventory.specs.Listing.{Entry, entry_of, matches, chosen, listed}
use Rattle.indices.specs.Area.{filled, code_field, entry_bytes}
use Rattle.indices.specs.Claims.Longest.{taken}
use Rattle.indices.specs.Claims.Bounds.{EntriesBounded}
use Rattle.indices.proofs.Written.{few}

bytes : (e : Entry) (field : ℕ) → field ≡ filled (length e.code) → (nuls : ℕ) → length e.code + nuls ≡ field
    → entry_bytes e ≡ be_bytes 4 e.index ++ (be_bytes 4 field ++ (e.code ++ replicate nuls 0))
unfolding entry_bytes code_field
bytes e field size nuls sum = let rest : filled (length e.code) - length e.code ≡ nuls = omega arith in rw (rest, size)

size : (e : Entry) → length (entry_bytes e) ≡ 8 + filled (length e.code)
unfolding entry_bytes code_field
size e = simp (length-append, length_be_bytes, length-replicate) (omega arith)

-- the code of every entry of good records is good
module _ (flag type : ℕ) (e : Entry) (after : List Entry) where
  abbrev From : List Entry → Type 0
  From es = (before : List Entry) → es ≡ before ++ (e ∷ after) → good_code e.code ≡ true

  from_none : From []
  from_none [] h = cc
  from_none (b ∷ bs) h = cc

  from_more : (x : Entry) (xs : List Entry) → good_code x.code ≡ true → From xs → From (x ∷ xs)
  from_more x xs here later [] h = cc
  from_more x xs here later (b ∷ bs) h = later bs (cc)

  code_good : (rs : List (List ℕ)) → all_good good_record rs ≡ true → From (chosen flag type rs)
  unfolding chosen_by all_good good_record
  code_good [] g = from_none
  code_good (r ∷ rs) g =
      let here = and_right (good_head r) _ (and_right (whole r) _ (and_left (whole r && good_record r) _ g)) in
      let later = code_good rs (and_right (whole r && good_record r) _ g) in
      let rest = chosen flag type rs in
      choose (matches flag type r) From {x = entry_of r ∷ rest} {y = rest} (λ _. from_more (entry_of r) rest here later) (λ _. later)

bound : (flag type : ℕ) (i : List ℕ) (before after : List Entry) (e : Entry) → well_formed i ≡ true → listed flag type i ≡ before ++ (e ∷ after)
    → length (entry_bytes e) ≤ 1032
unfolding listed well_formed code_limit
bound flag type i before after e formed h =
    omega (arith, size e, few e.code (code_good flag type e after (records i) (formed_good size_limit good_record i formed) before h))

pub entries_bounded : EntriesBounded
unfolding taken
entries_bounded = record { bytes = bytes; size = size; together = λ e es. (refl, rw (size e)); bound = bound }

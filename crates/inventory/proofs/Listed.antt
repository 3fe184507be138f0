-- Laws of the entries of a well-formed inventory.
use mathlib.Core.Path.{◌≡◌}
use mathlib.Core.Bool.{true, ◌&&◌}
use mathlib.Core.List.{List, [], ◌∷◌}
use Prim.Native.Nat.{ℕ, zero, suc, ◌-◌, ◌*◌, ◌≤◌}
use native.Mathlib.Omega.{arith}
use lib.Dec.{leb}
use lib.ListN.{length, length-take}
use borrow.Author.Tests.{leb-true, eqb-true}
use Rattle.words.specs.Numbers.{Bytes}
use Rattle.words.proofs.Choice.{choose, and_left, and_right}
use Rattle.words.proofs.Numbers.{le_below}
use Rattle.records.specs.Records.{length_of, size_of, first_record, whole, records_from, records, all_good, size_limit}
use Rattle.records.specs.Choosing.{chosen_by}
use Rattle.records.proofs.Choosing.{chosen_few}
use Rattle.records.proofs.Steps.{EachBytes, records_bytes, record_length, formed_good, formed_within}
use Rattle.inventory.specs.Inventory.{index_of, good_head, good_record, well_formed}
use Rattle.inventory.specs.Listing.{entry_of, matches, chosen, listed}
use Rattle.inventory.specs.Claims.Sound.{Sound}

chosen_sound : (flag type : ℕ) (rs : List (List ℕ)) → EachBytes rs → all_good good_record rs ≡ true → Sound (chosen flag type rs)
unfolding chosen_by all_good good_record index_of Sound
chosen_sound flag type [] h g = tt
chosen_sound flag type (r ∷ rs) h g =
    let good = and_right (whole r) _ (and_left (whole r && good_record r) _ g) in
    let rest = chosen_sound flag type rs h.1 (and_right (whole r && good_record r) _ g) in
    choose (matches flag type r) Sound {x = entry_of r ∷ chosen flag type rs} {y = chosen flag type rs} (λ _. (le_below r h.0 4 10, and_right (good_head r) _ good, rest)) (λ _. rest)

-- Each good record takes 15 bytes or more; k bytes belong to a record already cut.
records_fit : (k : ℕ) (b : List ℕ) → all_good good_record (records_from k b) ≡ true → 15 * length (records_from k b) ≤ length b - k
unfolding records_from all_good whole good_record good_head
records_fit zero [] g = omega arith
records_fit zero (x ∷ xs) g =
    let b = x ∷ xs in
    let r = first_record b in
    let here = and_left (whole r && good_record r) _ g in
    let full : length r ≡ size_of r = eqb-true (length r) (size_of r) (and_right (leb 2 (length_of r)) _ (and_left (whole r) _ here)) in
    let long : 15 ≤ size_of r = leb-true 15 (size_of r) (and_left _ _ (and_left (good_head r) _ (and_right (whole r) _ here))) in
    let rest = records_fit (size_of b - 1) xs (and_right (whole r && good_record r) _ g) in
    omega (arith, full, long, rest, record_length b 0, length-take (size_of b) b)
records_fit (suc k) [] g = omega arith
records_fit (suc k) (x ∷ xs) g = omega (arith, records_fit k xs g)

module _ (flag type : ℕ) (inventory : List ℕ) (formed : well_formed inventory ≡ true) where
  pub listed_sound : Bytes inventory → Sound (listed flag type inventory)
  unfolding listed records well_formed
  listed_sound bytes = chosen_sound flag type (records_from 0 inventory) (records_bytes 0 inventory bytes) (formed_good size_limit good_record inventory formed)

  -- 69,905 records of 15 bytes are the most that 1,048,576 bytes hold
  pub listed_few : length (listed flag type inventory) ≤ 69_905
  unfolding listed records well_formed
  listed_few =
      let fit = records_fit 0 inventory (formed_good size_limit good_record inventory formed) in
      omega (arith, fit, formed_within size_limit good_record inventory formed, chosen_few (matches flag type) entry_of (records_from 0 inventory))

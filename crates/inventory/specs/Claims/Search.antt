-- The search for the next entry of a flag and type, once the inventory is judged (document 02, M-102).
use Rattle.std.specs.Prelude.{ℕ, zero, suc, ◌+◌, ◌≤◌, ◌≡◌, Bool, true, false, cond, ◌&&◌, ◌||◌, not, List, [], ◌∷◌, ◌++◌, length, take, drop}
use Rattle.words.specs.Numbers.{le}
use Rattle.words.specs.Claims.Exactly.{Exactly}
use Rattle.records.specs.Records.{size_of, records, whole, all_good, size_limit}
use Rattle.inventory.specs.Inventory.{head_size, code_of, good_head, good_code, well_formed}
use Rattle.inventory.specs.Listing.{matches}

-- 02: "after the inventory check the search moves on by the record's length."
-- The place of the next record of the flag and type, among records of which the first stands at a place; their end where there is none.
unfoldable pub next_place : ℕ → ℕ → ℕ → List (List ℕ) → ℕ
next_place flag type at [] = at
next_place flag type at (r ∷ rs) =
    let later = next_place flag type (at + length r) rs in
    cond (matches flag type r) at later

-- What the search asks of a record: a good head, and a good code where it is of the flag and type.
unfoldable pub good_for : ℕ → ℕ → List ℕ → Bool
good_for flag type r = good_head r && (not (matches flag type r) || good_code (code_of r))

-- where record number n begins, counted from 0; their end where there are no more than n
unfoldable pub place_of : ℕ → List (List ℕ) → ℕ
place_of zero rs = 0
place_of (suc n) [] = 0
place_of (suc n) (r ∷ rs) = length r + place_of n rs

-- 02: "over two inventories that differ only in the bytes of other flags' or types' codes, NULs allowed, and are otherwise well formed"
-- Two records of one length that agree in every byte before the code, and in the code too where they are of the flag and type ..
pub record Alike (flag type : ℕ) (r s : List ℕ) : Type 0 where
  pub size : length r ≡ length s
  pub head : take head_size r ≡ take head_size s
  pub same : matches flag type r ≡ true → r ≡ s

-- .. and as many in the one as in the other, each like its counterpart
abbrev pub AllAlike : ℕ → ℕ → List (List ℕ) → List (List ℕ) → Type 0
AllAlike flag type [] [] = Unit {0}
AllAlike flag type [] (s ∷ ss) = ⊥
AllAlike flag type (r ∷ rs) [] = ⊥
AllAlike flag type (r ∷ rs) (s ∷ ss) = Alike flag type r s × AllAlike flag type rs ss

pub record OtherCodes (flag type : ℕ) (i k : List ℕ) : Type 0 where
  pub size : length i ≡ length k
  pub few : length i ≤ size_limit
  pub first : all_good (good_for flag type) (records i) ≡ true
  pub second : all_good (good_for flag type) (records k) ≡ true
  pub alike : AllAlike flag type (records i) (records k)

-- 02: "the search alone answers .. the same": the records of both begin at the same places, and from each it finds the same place.
abbrev pub SearchAgrees : Type 0
SearchAgrees = (flag type n : ℕ) (i k : List ℕ) → OtherCodes flag type i k
    → (place_of n (records i) ≡ place_of n (records k))
    × (next_place flag type (place_of n (records i)) (records (drop (place_of n (records i)) i))
    ≡ next_place flag type (place_of n (records i)) (records (drop (place_of n (records i)) k)))

-- ---- there are two such inventories

-- a record of a flag and a type, with the index 1 and a code of three bytes
abbrev pub item : ℕ → ℕ → List ℕ → List ℕ
item flag type code = 15 ∷ 0 ∷ 16 ∷ 0 ∷ flag ∷ 0 ∷ type ∷ 0 ∷ 0 ∷ 0 ∷ 1 ∷ 0 ∷ 0 ∷ 0 ∷ code

-- A sensor of the type 8, an indicator of the type 9 and a sensor of the type 9. The first has the code U78, or a NUL in place of the 7; the second has it, or
-- three NULs.
abbrev pub without_nul : List ℕ
without_nul = item 1 8 (85 ∷ 55 ∷ 56 ∷ []) ++ (item 0 9 (85 ∷ 55 ∷ 56 ∷ []) ++ item 1 9 (85 ∷ 55 ∷ 57 ∷ []))

abbrev pub with_nul : List ℕ
with_nul = item 1 8 (85 ∷ 0 ∷ 56 ∷ []) ++ (item 0 9 (0 ∷ 0 ∷ 0 ∷ []) ++ item 1 9 (85 ∷ 55 ∷ 57 ∷ []))

-- The inventory check takes the one and refuses the other. The search for a sensor of the type 9 finds the third record in both.
pub record SearchWitness : Type 0 where
  pub differ : OtherCodes 1 9 without_nul with_nul
  pub taken : well_formed without_nul ≡ true
  pub refused : well_formed with_nul ≡ false
  pub first : next_place 1 9 0 (records without_nul) ≡ 34
  pub second : next_place 1 9 0 (records with_nul) ≡ 34

-- 02: "the search moves on by the record's length": of a record of another flag or type nothing is asked but its head, whatever its code holds, "NULs allowed".
abbrev pub OthersUnjudged : Type 0
OthersUnjudged = (flag type : ℕ) (r : List ℕ) → whole r ≡ true → (le 2 r 4 ≡ flag → le 4 r 6 ≡ type → ⊥)
    → Exactly (good_for flag type r ≡ true) ((15 ≤ size_of r) × ((size_of r ≤ 1037) × ((le 2 r 2 ≡ 16) × (le 2 r 4 ≤ 1))))

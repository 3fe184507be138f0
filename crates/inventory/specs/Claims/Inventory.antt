-- Claims about the inventory's rules, cited by the contract of `scan`.
use Rattle.std.specs.Prelude.{ℕ, ◌/◌, ◌%◌, ◌≤◌, ◌≡◌, true, List, [], ◌∷◌, ◌++◌, T, length, replicate}
use Rattle.words.specs.Claims.Cases.{Case, yes, no, agree}
use Rattle.words.specs.Claims.Exactly.{Exactly}
use Rattle.words.specs.Claims.Words.{NumbersExactly}
use Rattle.records.specs.Records.{records, all_good}
use Rattle.records.specs.Claims.Records.{RecordsInTurn}
use Rattle.inventory.specs.Inventory.{good_record, well_formed}
use Rattle.inventory.specs.Claims.Records.{InventoryRecordExactly, ListedExactly}

-- a record of this length, kind and flag, of the type 9 and the index 1, with this code
abbrev pub entry : ℕ → ℕ → ℕ → List ℕ → List ℕ
entry len kind flag code = len % 256 ∷ len / 256 ∷ kind ∷ 0 ∷ flag ∷ 0 ∷ 9 ∷ 0 ∷ 0 ∷ 0 ∷ 1 ∷ 0 ∷ 0 ∷ 0 ∷ code

-- a code of three bytes, U78, and one of n bytes
abbrev pub three : List ℕ
three = 85 ∷ 55 ∷ 56 ∷ []

abbrev pub bytes : ℕ → List ℕ
bytes n = replicate n 85

-- inventories on both sides of a rule, for a reader to look at; `InventoryRecordExactly` and `RecordsInTurn` tell all of them
abbrev pub cases : List (Case (List ℕ))
cases =
    -- "An empty buffer is well formed."
    yes []
    -- an indicator, then a sensor
    ∷ yes (entry 15 16 0 three ++ entry 15 16 1 three)
    -- another kind, another flag, a NUL in the code
    ∷ no (entry 15 17 0 three)
    ∷ no (entry 15 16 2 three)
    ∷ no (entry 15 16 0 (85 ∷ 0 ∷ 56 ∷ []))
    -- 02, M-113: "codes up to 1,023 bytes"
    ∷ yes (entry 1035 16 0 (bytes 1023))
    ∷ no (entry 1036 16 0 (bytes 1024))
    -- "Records fill the buffer exactly."
    ∷ no (entry 16 16 0 three)
    ∷ []

abbrev pub WellFormedCases : Type 0
WellFormedCases = T (agree well_formed cases)

-- 01: "Inventory, same limit", ".. or an oversized buffer is malformed."
abbrev pub WellFormedExactly : Type 0
WellFormedExactly = (i : List ℕ) → Exactly (well_formed i ≡ true) ((length i ≤ 1_048_576) × (all_good good_record (records i) ≡ true))

-- all that is claimed of an inventory, and what it rests on
pub record InventoryClaims : Type 0 where
  pub numbers : NumbersExactly
  pub in_turn : RecordsInTurn
  pub good_record_claim : InventoryRecordExactly
  pub well_formed_claim : WellFormedExactly
  pub listed : ListedExactly
  pub cases : WellFormedCases

-- The claims about the inventory's rules hold.
use Rattle.words.specs.Numbers.{le}
use Rattle.records.specs.Records.{length_of, kind_of, records_from, records, whole, all_good, well_formed_by, size_limit}
use Rattle.words.proofs.Claims.{numbers_exactly}
use Rattle.records.proofs.Claims.{records_in_turn}
use Rattle.inventory.specs.Inventory.{flag_of, code_of, all_non_zero, good_code, good_record, well_formed, code_limit, good_head}
use Rattle.inventory.specs.Claims.Inventory.{WellFormedCases, WellFormedExactly, InventoryClaims}
use Rattle.inventory.proofs.RecordClaims.{inventory_record_exactly, listed_exactly}

pub well_formed_cases : WellFormedCases
unfolding well_formed well_formed_by good_record good_head code_limit flag_of code_of good_code all_non_zero records records_from whole all_good length_of kind_of le
well_formed_cases = tt

pub well_formed_exactly : WellFormedExactly
unfolding well_formed
well_formed_exactly i = records_in_turn.limited good_record size_limit i

-- the claims that `scan` cites
pub inventory_claims : InventoryClaims
inventory_claims =
    record {
      numbers = numbers_exactly;
      in_turn = records_in_turn;
      good_record_claim = inventory_record_exactly;
      well_formed_claim = well_formed_exactly;
      listed = listed_exactly;
      cases = well_formed_cases;
    }

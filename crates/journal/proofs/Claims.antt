-- The claims about the journal's rules hold.
use mathlib.Core.Path.{◌≡◌, refl}
use mathlib.Core.Bool.{false}
use mathlib.Core.List.{List}
use Prim.Native.Nat.{ℕ, ◌<◌}
use lib.ListN.{length}
use borrow.Author.Tests.{le-leb}
use Rattle.words.specs.Numbers.{le}
use Rattle.words.specs.Nul.{until_nul, is_ended}
use Rattle.words.proofs.Claims.{stated_exactly, numbers_exactly, nul_exactly}
use Rattle.records.specs.Records.{length_of, kind_of, records_from, records, whole, all_good, well_formed_by, size_limit}
use Rattle.records.proofs.Steps.{oversized}
use Rattle.records.proofs.Claims.{records_in_turn}
use Rattle.journal.specs.Property.{name_of, value_of, property_frame, good_property}
use Rattle.journal.specs.Journal.{good_frame, node_type, good_node, good_record, well_formed}
use Rattle.journal.specs.Scope.{negative, row_of}
use Rattle.journal.specs.Claims.Journal.{WellFormedCases, WellFormedExactly, ScopeRows, JournalClaims}
use Rattle.journal.proofs.RecordClaims.{journal_record_exactly, reportable_exactly}

pub well_formed_cases : WellFormedCases
unfolding well_formed well_formed_by good_record good_node good_frame node_type good_property property_frame name_of value_of is_ended until_nul records records_from whole all_good length_of kind_of le
well_formed_cases = tt

pub too_large : (j : List ℕ) → size_limit < length j → well_formed j ≡ false
unfolding well_formed
too_large j h = oversized size_limit good_record j h

pub well_formed_exactly : WellFormedExactly
unfolding well_formed
well_formed_exactly j = records_in_turn.limited good_record size_limit j

pub scope_rows : ScopeRows
unfolding row_of negative
scope_rows = (λ scope h. rw (le-leb 0x8000_0000 scope h), refl, refl, refl)

-- the claims that `scan` cites
pub journal_claims : JournalClaims
journal_claims =
    record {
      stated = stated_exactly;
      numbers = numbers_exactly;
      names = nul_exactly;
      in_turn = records_in_turn;
      good_record_claim = journal_record_exactly;
      well_formed_claim = well_formed_exactly;
      reported = reportable_exactly;
      scope_rows = scope_rows;
      cases = well_formed_cases;
    }

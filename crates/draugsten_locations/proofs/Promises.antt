-- The promises of the archive hold.
use Rattle.words.proofs.Claims.{numbers_exactly, nul_exactly, stated_exactly}
use Rattle.indices.proofs.ReaderClaims.{index_reader_exactly}
use Rattle.indices.proofs.Bounds.{entries_bounded}
use Rattle.locations.proofs.LookupClaims.{location_claims}
use Rattle.locations.proofs.ViewClaims.{view_claims}
use Rattle.draugsten_locations.specs.Promises.{LookupPromise, ViewPromise}
use Rattle.draugsten_locations.proofs.Crossed.{lookup_crossing, lookup_numbers, view_crossing, step_numbers, refusal_numbers}

pub lookup_promise : LookupPromise
lookup_promise =
    record {
      lookups = location_claims;
      crossing = lookup_crossing;
      answers = lookup_numbers;
      refusals = refusal_numbers;
      reader = index_reader_exactly;
      entries = entries_bounded;
      numbers = numbers_exactly;
      stated = stated_exactly;
      codes = nul_exactly;
    }

pub view_promise : ViewPromise
view_promise =
    record {
      views = view_claims;
      crossing = view_crossing;
      steps = step_numbers;
      refusals = refusal_numbers;
      reader = index_reader_exactly;
      entries = entries_bounded;
      numbers = numbers_exactly;
      stated = stated_exactly;
    }

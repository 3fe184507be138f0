-- The writer over two inventories that differ only in the codes of other flags and types.
use mathlib.Core.Path.{refl}
use Rattle.inventory.proofs.OtherCodes.{same_list, second_good, same_ahead}
use Rattle.indices.specs.Claims.OtherCodes.{WriterAgrees}

pub writer_agrees : WriterAgrees
writer_agrees flag type i k o =
    record {
      asked = λ number n count d.
          record { onward = second_good o n; rest = rw (← same_list o, ← same_ahead o n) d.rest; counted = rw (← same_ahead o n) d.counted; few = d.few };
      onward = λ n area. rw (same_ahead o n) (refl, refl);
      list = same_list o;
      whole = λ number area. rw (same_list o) (refl, refl);
    }

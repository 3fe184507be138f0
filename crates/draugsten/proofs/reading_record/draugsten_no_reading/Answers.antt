-- `reading_record::draugsten_no_reading` meets its contract.
use mathlib.Core.Path.{refl}
use Rattle.draugsten.proofs.Promises.{no_reading_promise}
use Rattle.draugsten.proofs.reading_record.draugsten_no_reading.Goals as goal

pub returns : goal.returns
returns c =
    rw (c.flat_reading_of.ensures, c.no_reading.ensures) (record { value = refl; promise = no_reading_promise })

-- `reading_record::reading_of` meets its contract.
use mathlib.Core.Path.{refl}
use Rattle.crossing.proofs.Records.{reading_faithful}
use Rattle.crossing.proofs.reading_record.reading_of.Goals as goal

pub returns : goal.returns
returns c =
    record { value = refl; faithful = reading_faithful }

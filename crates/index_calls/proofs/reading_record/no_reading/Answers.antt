-- `reading_record::no_reading` meets its contract.
use Rattle.index_calls.proofs.reading_record.no_reading.Goals as goal

pub returns : goal.returns
returns c =
    rw c.first.ensures

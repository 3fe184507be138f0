-- `table::draugsten_table_read` meets its contract.
use Rattle.draugsten_replay.proofs.Promises.{table_promise}
use Rattle.draugsten_replay.proofs.table.draugsten_table_read.Goals as goal

pub returns : goal.returns
returns c =
    record { value = c.read_table.ensures.value; digests_after = c.read_table.ensures.digests_after; promise = table_promise }

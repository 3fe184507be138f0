-- `table::draugsten_table_write` meets its contract.
use Rattle.draugsten_replay.proofs.Promises.{table_promise}
use Rattle.draugsten_replay.proofs.table.draugsten_table_write.Goals as goal

pub returns : goal.returns
returns c =
    record { value = c.write_table.ensures.value; out_after = c.write_table.ensures.out_after; promise = table_promise }

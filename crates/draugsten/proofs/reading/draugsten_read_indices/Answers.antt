-- `reading::draugsten_read_indices` meets its contract.
use Rattle.draugsten.proofs.Promises.{read_indices_promise}
use Rattle.draugsten.proofs.reading.draugsten_read_indices.Goals as goal

pub returns : goal.returns
returns c =
    record { value = c.read_indices.ensures.value; out_after = c.read_indices.ensures.out_after; promise = read_indices_promise }

-- `reading::draugsten_read_nodes` meets its contract.
use Rattle.draugsten.proofs.Promises.{read_nodes_promise}
use Rattle.draugsten.proofs.reading.draugsten_read_nodes.Goals as goal

pub returns : goal.returns
returns c =
    record { value = c.read_nodes.ensures.value; out_after = c.read_nodes.ensures.out_after; promise = read_nodes_promise }

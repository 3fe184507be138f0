-- `reading::draugsten_read_properties` meets its contract.
use Rattle.draugsten.proofs.Promises.{read_properties_promise}
use Rattle.draugsten.proofs.reading.draugsten_read_properties.Goals as goal

pub returns : goal.returns
returns c =
    record { value = c.read_properties.ensures.value; out_after = c.read_properties.ensures.out_after; promise = read_properties_promise }

-- `reading::Cursor::start` meets its contract.
use mathlib.Core.Path.{refl}
use Rattle.node_area.proofs.Verdicts.{entries_in_order}
use Rattle.node_area.proofs.reading.Cursor.start.Goals as goal

pub returns : goal.returns
returns c =
    record { value = refl; order = entries_in_order }

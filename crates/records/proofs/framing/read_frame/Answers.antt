-- `framing::read_frame` meets its contract.
use Rattle.records.proofs.Steps.{length_at, kind_at}
use Rattle.records.proofs.framing.read_frame.Goals as goal

pub returns : goal.returns
returns c =
    rw (length_at c.args.buffer.now c.args.at, kind_at c.args.buffer.now c.args.at, c.read_le16.ensures, c.read_le16-2.ensures)

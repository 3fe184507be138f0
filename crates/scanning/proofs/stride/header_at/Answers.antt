-- `stride::header_at` meets its contract.
use Rattle.std.proofs.Common.{sym}
use Rattle.words.proofs.Numbers.{le_split}
use Rattle.scanning.proofs.stride.header_at.Goals as goal

pub returns : goal.returns
returns c =
    rw (c.read_le32-low.ensures, c.read_le16-high.ensures) (sym (le_split 4 2 c.args.j.now c.args.at))

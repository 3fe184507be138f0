use native.Mathlib.Omega.{arith}
use Rattle.words.proofs.Numbers.{le_split}
use Rattle.words.proofs.reading.read_le64.Goals as goal

pub returns : goal.returns
returns c = rw (c.from.ensures, c.from-2.ensures, c.read_le32.ensures, c.read_le32-2.ensures, le_split 4 4 c.args.s.now c.args.at) (omega arith)

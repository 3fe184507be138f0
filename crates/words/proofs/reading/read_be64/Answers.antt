use mathlib.Core.Path.{sym}
use Rattle.words.proofs.Numbers.{be_split}
use Rattle.words.proofs.reading.read_be64.Goals as goal

pub returns : goal.returns
returns c = rw (c.from.ensures, c.from-2.ensures, c.read_be32.ensures, c.read_be32-2.ensures) (sym (be_split 4 4 _ _))

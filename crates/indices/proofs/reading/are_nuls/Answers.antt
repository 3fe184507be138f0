use mathlib.Core.Path.{refl}
use Rattle.indices.proofs.IndexLaws.{nuls_not, nuls_told}
use Rattle.indices.proofs.reading.are_nuls.Goals as goal

pub returns-then-bytes-ne0 : goal.returns-then-bytes-ne0
returns-then-bytes-ne0 c = nuls_not _ 0 c.if-bytes-ne0.true

pub returns-then-bytes-min-ne0 : goal.returns-then-bytes-min-ne0
returns-then-bytes-min-ne0 c = nuls_not _ _ c.if-bytes-min-ne0.true

pub returns-then-bytes-min-ne0-2 : goal.returns-then-bytes-min-ne0-2
returns-then-bytes-min-ne0-2 c = nuls_not _ _ c.if-bytes-min-ne0-2.true

pub returns : goal.returns
returns c =
    rw c.min-3.ensures (nuls_told c.args.bytes.now _ refl c.requires.0 c.requires.1 c.if-bytes-ne0.false (rw c.min.ensures at c.if-bytes-min-ne0.false) (rw c.min-2.ensures at c.if-bytes-min-ne0-2.false))

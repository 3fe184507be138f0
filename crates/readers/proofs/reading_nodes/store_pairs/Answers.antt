use native.Mathlib.Omega.{arith}
use Rattle.readers.proofs.NodeWords.{partly_first, partly_length, partly_all, pairs_next}
use Rattle.readers.proofs.reading_nodes.store_pairs.Goals as goal

pub loop-i-init : goal.loop-i-init
loop-i-init c =
    partly_first _ _ _ _ _ _ _ _

pub store-requires : goal.store-requires
store-requires c =
    omega (arith, partly_length c.loop-i.invariant)

pub loop-i-preserved : goal.loop-i-preserved
loop-i-preserved c =
    pairs_next c.loop-i.invariant _ _ _ c.loop-i-test.true c.requires.0 c.read_be32-first.ensures c.read_be32-second.ensures c.store.ensures

pub shape_of-out : goal.shape_of-out
shape_of-out c =
    partly_length c.loop-i.invariant

pub returns : goal.returns
returns c =
    partly_all c.loop-i.invariant c.loop-i-test.false

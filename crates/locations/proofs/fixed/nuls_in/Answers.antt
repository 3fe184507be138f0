use Rattle.std.proofs.Common.{eqb, get_or, refl, ◌∙◌, arith}
use Rattle.locations.proofs.NulLaws.{counts_start, counts_next, counts_end, one_nul}
use Rattle.locations.proofs.fixed.nuls_in.Goals as goal

pub loop-byte-init : goal.loop-byte-init
loop-byte-init c =
    counts_start c.args.block.now

pub overflow_add-n : goal.overflow_add-n
overflow_add-n c =
    omega (arith, c.from-n.ensures, (one_nul (eqb (get_or c.args.block.now c.loop-byte.byte-index 0) 0)).0, c.loop-byte.invariant.few)

pub loop-byte-preserved : goal.loop-byte-preserved
loop-byte-preserved c =
    counts_next c.loop-byte.invariant _ _ c.loop-byte-test.true refl c.from-n.ensures

pub returns : goal.returns
returns c =
    c.from.ensures ∙ counts_end c.loop-byte.invariant c.loop-byte-test.false

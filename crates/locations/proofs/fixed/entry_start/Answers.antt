use Rattle.std.proofs.Common.{arith}
use borrow.Author.Tests.{ltb-false}
use Rattle.locations.proofs.NulLaws.{nul_place_lem, nul_inside, seeks_next, seeks_none, seeks_end}
use Rattle.locations.proofs.fixed.entry_start.Goals as goal

pub loop-left-init : goal.loop-left-init
loop-left-init c =
    c.skip_blocks-place.ensures

pub overflow_add-nul : goal.overflow_add-nul
overflow_add-nul c =
    omega (arith, nul_inside c.args.fixed.now _ _ c.loop-left.invariant.inside (nul_place_lem _ _ _ c.until_nul.ensures))

pub overflow_add-nul-in-loop-left : goal.overflow_add-nul-in-loop-left
overflow_add-nul-in-loop-left c =
    omega (arith, nul_inside c.args.fixed.now _ _ c.loop-left.invariant.inside (nul_place_lem _ _ _ c.until_nul.ensures))

pub loop-left-preserved : goal.loop-left-preserved
loop-left-preserved c =
    seeks_next c.loop-left.invariant _ _ c.loop-left-test.true (nul_place_lem _ _ _ c.until_nul.ensures) c.min-at.ensures

pub returns-else-at-fixed : goal.returns-else-at-fixed
returns-else-at-fixed c =
    seeks_end c.loop-left.invariant (ltb-false _ _ c.if-at-fixed.false-raw)

pub returns-after-loop-left : goal.returns-after-loop-left
returns-after-loop-left c =
    seeks_none c.loop-left.invariant c.loop-left-test.false

use mathlib.Core.Path.{refl}
use native.Mathlib.Omega.{arith}
use Rattle.locations.proofs.NulLaws.{seeks_block}
use Rattle.locations.proofs.fixed.skip_blocks.Goals as goal

pub loop-at-init : goal.loop-at-init
loop-at-init c =
    record { inside = omega arith; same = refl }

pub returns-then-left-n : goal.returns-then-left-n
returns-then-left-n c =
    c.loop-at.invariant

pub loop-at-preserved : goal.loop-at-preserved
loop-at-preserved c =
    seeks_block c.loop-at.invariant _ c.loop-at-test.true c.nuls_in-n.ensures c.if-left-n.false

pub returns : goal.returns
returns c =
    c.loop-at.invariant

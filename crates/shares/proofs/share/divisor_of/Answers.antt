use mathlib.Core.Path.{refl, ◌∙◌}
use native.Mathlib.Nat.{mod-lt}
use native.Mathlib.Omega.{arith}
use Rattle.shares.proofs.Euclid.{divisor_step, divisor_over}
use Rattle.shares.proofs.share.divisor_of.Goals as goal

pub loop-y-init : goal.loop-y-init
loop-y-init c =
    refl

pub nonzero_rem-rest : goal.nonzero_rem-rest
nonzero_rem-rest c =
    omega arith

pub loop-y-smaller : goal.loop-y-smaller
loop-y-smaller c =
    mod-lt _ (omega arith)

pub loop-y-preserved : goal.loop-y-preserved
loop-y-preserved c =
    divisor_step _ _ (omega arith) ∙ c.loop-y.invariant

pub returns : goal.returns
returns c =
    divisor_over _ _ c.loop-y-test.false ∙ c.loop-y.invariant

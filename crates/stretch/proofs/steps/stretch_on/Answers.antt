use native.Mathlib.Omega.{arith}
use Rattle.stretch.proofs.Going.{goes_nowhere, goes_on}
use Rattle.stretch.proofs.steps.stretch_on.Goals as goal

pub loop-s-init : goal.loop-s-init
loop-s-init c =
    (goes_nowhere _ _ c.requires, c.requires)

pub stride-next-requires : goal.stride-next-requires
stride-next-requires c =
    (c.loop-s.invariant.1, c.loop-s-test.true)

-- where a stride stayed, no good record stands
pub returns-then-next-s : goal.returns-then-next-s
returns-then-next-s c =
    (c.loop-s.invariant.0, c.loop-s.invariant.1, λ h. c.stride-next.ensures.2 c.if-next-s.true)

pub loop-s-smaller : goal.loop-s-smaller
loop-s-smaller c =
    omega (arith, c.if-next-s.false, c.stride-next.ensures.0.onward, c.loop-s-test.true)

pub loop-s-preserved : goal.loop-s-preserved
loop-s-preserved c =
    let p = c.stride-next.ensures in
    (goes_on _ _ _ _ c.loop-s.invariant.0 p.0 p.1.small, p.1)

pub returns : goal.returns
returns c =
    (c.loop-s.invariant.0, c.loop-s.invariant.1, λ h. absurd (omega (arith, c.loop-s-test.false)))

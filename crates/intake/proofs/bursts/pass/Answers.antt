use mathlib.Core.Path.{refl, sym, ◌∙◌}
use native.Mathlib.Omega.{arith}
use Rattle.records.proofs.Behind.{ripe_is, none_ripe, some_ripe}
use Rattle.intake.specs.Taking.{good_front}
use Rattle.intake.proofs.Standings.{pass_starts, pass_over, pass_held, pass_on}
use Rattle.intake.proofs.bursts.pass.Goals as goal

pub loop-place-init : goal.loop-place-init
loop-place-init c =
    pass_starts _ _ _ c.requires.0 c.requires.1

pub shape_of-buffer-then-is_stopped : goal.shape_of-buffer-then-is_stopped
shape_of-buffer-then-is_stopped c =
    c.loop-place.invariant.size

pub returns-then-is_stopped : goal.returns-then-is_stopped
returns-then-is_stopped c =
    pass_over c.loop-place.invariant (sym c.is_stopped.ensures ∙ c.if-is_stopped.true)

pub ripe_at-requires : goal.ripe_at-requires
ripe_at-requires c =
    c.loop-place.invariant.place

pub shape_of-buffer-in_default : goal.shape_of-buffer-in_default
shape_of-buffer-in_default c =
    c.loop-place.invariant.size

pub returns-in_default : goal.returns-in_default
returns-in_default c =
    pass_held c.loop-place.invariant (sym c.is_stopped.ensures ∙ c.if-is_stopped.false) _ (none_ripe good_front _ _ c.ripe_at.ensures c.in_default.is) refl

pub advance-next-requires : goal.advance-next-requires
advance-next-requires c =
    let now = c.loop-place.invariant in
    let some = some_ripe good_front _ _ c.ripe_at.ensures _ c.in-Some.is in
    let ripe = ripe_is good_front _ _ _ now.place some.0 some.1 in
    record { sound = now.sound; going = sym c.is_stopped.ensures ∙ c.if-is_stopped.false; is = ripe.is; fits = ripe.fits }

pub loop-place-smaller : goal.loop-place-smaller
loop-place-smaller c =
    omega (arith, c.advance-next.ensures.place, c.advance-next.ensures.onward)

pub loop-place-preserved : goal.loop-place-preserved
loop-place-preserved c =
    pass_on c.loop-place.invariant c.advance-next.ensures c.advance-next.auto.buffer

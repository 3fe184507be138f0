use mathlib.Core.Path.{refl}
use Rattle.properties.proofs.Going.{going_hit, going_miss, going_end}
use Rattle.properties.proofs.walk.go_through.Goals as goal

pub loop-r-init : goal.loop-r-init
loop-r-init c =
    record { sum = refl; rooms = refl; finds = refl }

pub loop-r-preserved-then-at-state : goal.loop-r-preserved-then-at-state
loop-r-preserved-then-at-state c =
    going_hit _ _ _ _ _ _ _ _ _ c.loop-r.invariant c.requires.0 c.loop-r-test.true c.if-at-state.true

pub loop-r-preserved : goal.loop-r-preserved
loop-r-preserved c =
    going_miss _ _ _ _ _ _ _ _ _ c.loop-r.invariant c.requires.0 c.loop-r-test.true c.if-at-state.false

pub returns : goal.returns
returns c =
    going_end _ _ _ _ _ _ _ _ _ c.loop-r.invariant c.loop-r-test.false

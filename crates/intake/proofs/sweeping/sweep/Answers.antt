-- `sweeping::sweep` meets its contract.
use mathlib.Core.Path.{◌≡◌, refl, sym, ◌∙◌}
use mathlib.Core.Bool.{false}
use native.Mathlib.Omega.{arith}
use Rattle.std.specs.Prelude.{is_some}
use Rattle.intake.proofs.Completing.{completed_far}
use Rattle.intake.proofs.Sweeps.{end_inside, sweep_none, sweep_takeable, sweep_all}
use Rattle.intake.proofs.sweeping.sweep.Goals as goal

pub returns-then-is_stopped : goal.returns-then-is_stopped
returns-then-is_stopped c =
    sweep_none c.requires _ refl refl (completed_far _ _ _ (λ some _ _. some (c.requires.quiet (sym c.is_stopped.ensures ∙ c.if-is_stopped.true))))

pub can_sweep-requires : goal.can_sweep-requires
can_sweep-requires c =
    (omega (arith, c.requires.inside, c.well_formed.1.0.1), omega (arith, end_inside c.requires _ c.begin_stretch-first.ensures, c.well_formed.1.1.1.0.1))

pub returns-then-not-can_sweep : goal.returns-then-not-can_sweep
returns-then-not-can_sweep c =
    sweep_none c.requires _ c.begin_stretch-first.ensures.size c.begin_stretch-first.ensures.front c.begin_stretch-first.ensures.whole

pub take_stretch-passed-requires : goal.take_stretch-passed-requires
take_stretch-passed-requires c =
    let going : is_some c.args.from.place.fault ≡ false =
    sym c.is_stopped.ensures ∙ c.if-is_stopped.false in
    sweep_takeable c.requires _ c.begin_stretch-first.ensures (going) (rw c.room_for.ensures at (sym c.can_sweep.ensures ∙ c.if-not-can_sweep.false))

pub returns : goal.returns
returns c =
    let going : is_some c.args.from.place.fault ≡ false =
    sym c.is_stopped.ensures ∙ c.if-is_stopped.false in
    sweep_all c.requires _ c.begin_stretch-first.ensures (going) _ (sym c.can_sweep.ensures ∙ c.if-not-can_sweep.false)
    c.take_stretch-passed.ensures

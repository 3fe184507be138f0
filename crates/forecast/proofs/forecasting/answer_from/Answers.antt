-- `forecasting::answer_from` meets its contract.
use mathlib.Core.Path.{◌≡◌, sym, ◌∙◌}
use Prim.Native.Nat.{◌+◌}
use native.Mathlib.Omega.{arith}
use Rattle.node_area.specs.State.{total}
use Rattle.forecast.specs.Forecast.{answer_from}
use Rattle.forecast.proofs.Told.{run_few, answered, told_outside, told_inside}
use Rattle.forecast.proofs.forecasting.answer_from.Goals as goal

pub returns-then-not-is_within : goal.returns-then-not-is_within
returns-then-not-is_within c =
    let a = c.args in
    c.refusal.ensures
    ∙ told_outside a.counts a.state.0 _ c.reported-before.ensures (sym c.is_within.ensures ∙ c.if-not-is_within.true)

pub overflow_add-after : goal.overflow_add-after
overflow_add-after c =
    omega (arith, run_few _ _ c.longest_run-run.ensures.value)

pub overflow_add-after-2 : goal.overflow_add-after-2
overflow_add-after-2 c =
    omega (arith, run_few _ _ c.longest_run-run.ensures.value)

pub overflow_add-after-3 : goal.overflow_add-after-3
overflow_add-after-3 c =
    omega (arith, run_few _ _ c.longest_run-run.ensures.value, c.reported-before.ensures, c.well_formed)

pub returns-then-is_below : goal.returns-then-is_below
returns-then-is_below c =
    let told : answered c.is_below.result (c.reported-before.result + total c.longest_run-run.result) ≡ answer_from c.args.counts c.args.state.0 =
    let a = c.args in
    told_inside a.counts a.state.0 _ c.reported-before.ensures _ _ _ (sym c.is_within.ensures ∙ c.if-not-is_within.false) c.remaining.ensures c.longest_run-run.ensures.value c.is_below.ensures in
    rw c.if-is_below.true at (told)

pub returns : goal.returns
returns c =
    let told : answered c.is_below.result (c.reported-before.result + total c.longest_run-run.result) ≡ answer_from c.args.counts c.args.state.0 =
    let a = c.args in
    told_inside a.counts a.state.0 _ c.reported-before.ensures _ _ _ (sym c.is_within.ensures ∙ c.if-not-is_within.false) c.remaining.ensures c.longest_run-run.ensures.value c.is_below.ensures in
    rw c.if-is_below.false at (told)

-- `finding::value_of` meets its contract.
use mathlib.Core.Path.{◌≡◌, refl, ◌∙◌}
use Prim.Native.Nat.{◌+◌, ◌-◌, ◌*◌}
use native.Mathlib.Omega.{arith}
use lib.ListN.{get_or}
use Rattle.month_reading.proofs.Searches.{valued_none, value_next, value_over, value_end}
use Rattle.month_reading.proofs.finding.value_of.Goals as goal

pub loop-b-init : goal.loop-b-init
loop-b-init c =
    valued_none _

pub returns-in_err-checked_mul : goal.returns-in_err-checked_mul
returns-in_err-checked_mul c =
    let d = get_or c.args.digits.now c.loop-b.b-index 0 - 48 in
    c.from_residual.ensures ∙ value_over c.loop-b.invariant (d) refl c.loop-b-test.true (omega (arith, c.in_err-checked_mul.ensures))

pub returns-in_err-value : goal.returns-in_err-value
returns-in_err-value c =
    c.from_residual-in_err-value.ensures
    ∙ value_over c.loop-b.invariant _ c.digit.ensures c.loop-b-test.true (omega (arith, c.in_ok-checked_mul.ensures.1, c.in_err-value.ensures))

pub loop-b-preserved : goal.loop-b-preserved
loop-b-preserved c =
    let sum : c.in_ok-value.value ≡ 10 * c.loop-b.value + c.digit.result =
    omega (arith, c.in_ok-checked_mul.ensures.1, c.in_ok-value.ensures.1) in
    rw sum (value_next c.loop-b.invariant _ c.digit.ensures c.loop-b-test.true (omega (arith, sum, c.in_ok-value.ensures)))

pub returns : goal.returns
returns c =
    value_end c.loop-b.invariant (omega arith)

use mathlib.Core.Path.{◌≡◌, sym, ◌∙◌}
use native.Mathlib.Omega.{arith}
use lib.ListN.{drop}
use Rattle.month_table.specs.Reading.{is_session}
use Rattle.month_table.proofs.Parts.{rest_part}
use Rattle.month_reading.proofs.Turns.{passed_none, passed_inside, passed_row, passed_wrong, sessions_told}
use Rattle.month_reading.proofs.judging.read_sessions.Goals as goal

pub loop-at-init : goal.loop-at-init
loop-at-init c =
    passed_none _

pub slice_bounds-is_session-start : goal.slice_bounds-is_session-start
slice_bounds-is_session-start c =
    omega (arith, c.loop-at-test.true)

pub overflow_add-result : goal.overflow_add-result
overflow_add-result c =
    record { fits = omega (arith, c.loop-at.invariant.place, c.loop-at.invariant.inside) }

pub returns-then-not-is_session : goal.returns-then-not-is_session
returns-then-not-is_session c =
    let told : is_session (drop c.loop-at.at c.args.rows.now) ≡ c.is_session.result =
    sym (rw (rest_part c.loop-at.at c.args.rows.now) at c.is_session.ensures) in
    passed_wrong c.loop-at.invariant c.loop-at-test.true (told ∙ c.if-not-is_session.true)

pub overflow_add-at : goal.overflow_add-at
overflow_add-at c =
    let told : is_session (drop c.loop-at.at c.args.rows.now) ≡ c.is_session.result =
    sym (rw (rest_part c.loop-at.at c.args.rows.now) at c.is_session.ensures) in
    record { fits = omega (arith, passed_inside c.loop-at.invariant (told ∙ c.if-not-is_session.false)) }

pub overflow_add-count : goal.overflow_add-count
overflow_add-count c =
    record { fits = omega (arith, c.loop-at.invariant.place, c.loop-at.invariant.inside) }

pub loop-at-preserved : goal.loop-at-preserved
loop-at-preserved c =
    let told : is_session (drop c.loop-at.at c.args.rows.now) ≡ c.is_session.result =
    sym (rw (rest_part c.loop-at.at c.args.rows.now) at c.is_session.ensures) in
    passed_row c.loop-at.invariant c.loop-at-test.true (told ∙ c.if-not-is_session.false)

pub returns : goal.returns
returns c =
    sessions_told c.loop-at.invariant c.loop-at-test.false

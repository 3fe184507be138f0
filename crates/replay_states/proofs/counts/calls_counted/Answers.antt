use mathlib.Core.Path.{refl}
use native.Mathlib.Omega.{arith}
use Rattle.counting.specs.Figures.{sum_of}
use Rattle.replay_states.proofs.Counted.{one_row_more, too_many, all_rows}
use Rattle.replay_states.proofs.counts.calls_counted.Goals as goal

pub loop-i-init : goal.loop-i-init
unfolding sum_of
loop-i-init c =
    (refl, omega arith)

pub overflow_sub-sum : goal.overflow_sub-sum
overflow_sub-sum c =
    omega (arith, c.loop-i.invariant.1)

pub returns-then-sum-rows : goal.returns-then-sum-rows
returns-then-sum-rows c =
    too_many c.args.rows c.loop-i.sum c.loop-i.i c.loop-i.invariant.0 (omega arith) (omega (arith, c.if-sum-rows.true))

pub overflow_add-sum : goal.overflow_add-sum
overflow_add-sum c =
    record { fits = omega (arith, c.loop-i.invariant.1, c.if-sum-rows.false) }

pub loop-i-preserved : goal.loop-i-preserved
loop-i-preserved c =
    (one_row_more c.args.rows c.loop-i.sum c.loop-i.i c.loop-i.invariant.0, omega (arith, c.if-sum-rows.false))

pub returns : goal.returns
returns c =
    all_rows c.args.rows c.loop-i.sum c.loop-i.i c.loop-i.invariant.0 (omega arith) (omega (arith, c.loop-i.invariant.1))

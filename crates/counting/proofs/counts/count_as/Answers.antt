-- `counts::count_as` meets its contract.
use native.Mathlib.Omega.{arith}
use Rattle.counting.proofs.counts.count_as.Goals as goal

pub overflow_add-rows : goal.overflow_add-rows
overflow_add-rows c =
    omega (arith, c.requires.0.rows c.args.row)

-- `writing::text_length` meets its contract.
use native.Mathlib.Omega.{arith}
use Rattle.month_table.proofs.Sizes.{all_few}
use Rattle.month_table.proofs.writing.text_length.Goals as goal

pub overflow_add-rows_length : goal.overflow_add-rows_length
overflow_add-rows_length c =
    omega (arith, c.rows_length.ensures, all_few c.args.figures)

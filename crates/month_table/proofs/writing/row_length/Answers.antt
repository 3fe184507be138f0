-- `writing::row_length` meets its contract.
use mathlib.Core.Path.{ap}
use native.Mathlib.Omega.{arith}
use lib.ListN.{length}
use Rattle.month_table.proofs.Sizes.{row_short}
use Rattle.month_table.proofs.writing.row_length.Goals as goal

pub put_row-requires : goal.put_row-requires
put_row-requires c =
    record { p_bound = c.requires; fits = omega (arith, ap length c.new-row.ensures.held, row_short c.args.p c.args.v c.requires) }

pub returns : goal.returns
returns c =
    omega (arith, c.put_row.ensures.place)

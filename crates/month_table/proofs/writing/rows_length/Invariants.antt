-- `writing::rows_length` meets its contract.
use Rattle.month_table.proofs.Sizes.{Added}
use Rattle.month_table.proofs.writing.rows_length.Given as goal

abbrev pub invariant-loop-p : goal.invariant-loop-p
invariant-loop-p l = Added l.figures l.length l.p

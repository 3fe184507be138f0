-- `finding::count_after` meets its contract.
use native.Mathlib.Omega.{arith}
use Rattle.month_reading.proofs.Searches.{line_within, line_part, count_none}
use Rattle.month_reading.proofs.finding.count_after.Goals as goal

pub returns-then-end-skip : goal.returns-then-end-skip
returns-then-end-skip c =
    count_none c.args.text.now c.args.skip (omega (arith, c.line_length-end.ensures, c.if-end-skip.true))

pub slice_bounds-value_of-end : goal.slice_bounds-value_of-end
slice_bounds-value_of-end c =
    omega (arith, c.line_length-end.ensures, line_within c.args.text.now)

pub returns : goal.returns
returns c =
    rw (line_part _ _ _ c.line_length-end.ensures c.if-end-skip.false) at c.value_of.ensures

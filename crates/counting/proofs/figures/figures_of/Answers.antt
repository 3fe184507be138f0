-- `figures::figures_of` meets its contract.
use mathlib.Core.Path.{ap}
use native.Mathlib.Omega.{arith}
use lib.ListN.{drop}
use Rattle.totals.specs.Adding.{totals_of}
use Rattle.counting.proofs.Summing.{sum_part, sum_most, seven_stores}
use Rattle.counting.proofs.figures.figures_of.Goals as goal

pub calls_in-requires : goal.calls_in-requires
calls_in-requires c =
    rw (sum_part 7) (omega (arith, sum_most c.args.counts.rows 0 4_294_967_295 c.requires.rows 7))

pub calls_in-requires-2 : goal.calls_in-requires-2
calls_in-requires-2 c =
    rw (sum_part 7) (omega (arith, sum_most c.args.counts.rows 7 4_294_967_295 c.requires.rows 7))

pub calls_in-requires-3 : goal.calls_in-requires-3
calls_in-requires-3 c =
    rw (sum_part 7) (omega (arith, sum_most c.args.counts.rows 14 4_294_967_295 c.requires.rows 7))

pub calls_in-requires-4 : goal.calls_in-requires-4
calls_in-requires-4 c =
    rw (sum_part 7) (omega (arith, sum_most c.args.counts.rows 21 4_294_967_295 c.requires.rows 7))

pub calls_in-requires-5 : goal.calls_in-requires-5
calls_in-requires-5 c =
    rw (sum_part 2) (omega (arith, sum_most c.args.counts.rows 0 4_294_967_295 c.requires.rows 2))

pub overflow_mul-figures : goal.overflow_mul-figures
overflow_mul-figures c =
    record { fits = omega (arith, rw (sum_part 2) at c.calls_in-5.ensures, sum_most c.args.counts.rows 0 4_294_967_295 c.requires.rows 2) }

pub returns : goal.returns
returns c =
    let at_7 = sum_part 7 (drop 7 c.args.counts.rows) in
    let at_14 = sum_part 7 (drop 14 c.args.counts.rows) in
    let at_21 = sum_part 7 (drop 21 c.args.counts.rows) in
    rw (c.rows_first-figures.ensures, c.calls_in.ensures, c.calls_in-2.ensures, c.calls_in-3.ensures, c.calls_in-4.ensures, c.calls_in-5.ensures, sum_part 7 c.args.counts.rows, sum_part 2 c.args.counts.rows, at_7, at_14, at_21)
    (ap totals_of (seven_stores c.args.counts.rows c.requires.size _ _ _ _ _ _ _))

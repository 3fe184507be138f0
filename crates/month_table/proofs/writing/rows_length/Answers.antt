use native.Mathlib.Omega.{arith}
use Rattle.month_table.proofs.Places.{place_below}
use Rattle.month_table.proofs.Sizes.{added_none, added_row, added_all_lem}
use Rattle.month_table.proofs.writing.rows_length.Goals as goal

pub loop-p-init : goal.loop-p-init
loop-p-init c =
    added_none _

pub offset_bounds-figures-place_of : goal.offset_bounds-figures-place_of
offset_bounds-figures-place_of c =
    record { fits = omega (arith, c.place_of.ensures, place_below _ c.loop-p-test.true) }

pub bounds-figures-place_of : goal.bounds-figures-place_of
bounds-figures-place_of c =
    omega (arith, c.place_of.ensures, place_below _ c.loop-p-test.true)

pub overflow_add-length : goal.overflow_add-length
overflow_add-length c =
    omega (arith, (added_row c.loop-p.invariant _ c.loop-p-test.true (rw c.place_of.ensures at c.row_length-length.ensures)).few)

pub loop-p-preserved : goal.loop-p-preserved
loop-p-preserved c =
    added_row c.loop-p.invariant _ c.loop-p-test.true (rw c.place_of.ensures at c.row_length-length.ensures)

pub returns : goal.returns
returns c =
    added_all_lem c.loop-p.invariant (omega arith)

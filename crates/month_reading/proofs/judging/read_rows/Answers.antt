use mathlib.Core.Path.{◌≡◌}
use native.Mathlib.Omega.{arith}
use lib.ListN.{drop}
use Rattle.std.specs.Prelude.{Some, None}
use Rattle.month_reading.specs.Inner.Terms.{row_in}
use Rattle.month_table.proofs.Places.{place_below}
use Rattle.month_table.proofs.Parts.{rest_part}
use Rattle.month_reading.proofs.Turns.{turned_start, turned_row, rows_told_wrong, rows_told}
use Rattle.month_reading.proofs.judging.read_rows.Goals as goal

pub loop-p-init : goal.loop-p-init
loop-p-init c =
    turned_start _ c.requires

pub returns-in_default : goal.returns-in_default
returns-in_default c =
    let told : None ≡ row_in c.loop-p.p (drop c.loop-p.at c.args.text.now) =
    rw (rest_part c.loop-p.at c.args.text.now) at c.in_default.ensures in
    rows_told_wrong c.loop-p.invariant c.loop-p-test.true (told)

pub offset_bounds-figures-place_of : goal.offset_bounds-figures-place_of
offset_bounds-figures-place_of c =
    record { fits = omega (arith, c.place_of.ensures, place_below _ c.loop-p-test.true) }

pub bounds-figures-place_of : goal.bounds-figures-place_of
bounds-figures-place_of c =
    omega (arith, c.place_of.ensures, place_below _ c.loop-p-test.true)

pub overflow_add-at : goal.overflow_add-at
overflow_add-at c =
    let told : Some c.in-Some.row ≡ row_in c.loop-p.p (drop c.loop-p.at c.args.text.now) =
    rw (rest_part c.loop-p.at c.args.text.now) at c.in-Some.ensures in
    record { fits = omega (arith, (turned_row c.loop-p.invariant c.loop-p-test.true _ (told)).inside) }

pub loop-p-preserved : goal.loop-p-preserved
loop-p-preserved c =
    let told : Some c.in-Some.row ≡ row_in c.loop-p.p (drop c.loop-p.at c.args.text.now) =
    rw (rest_part c.loop-p.at c.args.text.now) at c.in-Some.ensures in
    rw c.place_of.ensures (turned_row c.loop-p.invariant c.loop-p-test.true _ (told))

pub returns : goal.returns
returns c =
    rows_told c.loop-p.invariant (omega arith)

use mathlib.Core.Path.{◌≡◌}
use Prim.Native.Nat.{◌+◌, ◌-◌}
use native.Mathlib.Omega.{arith}
use lib.ListN.{get_or}
use Rattle.printing.proofs.Puts.{ahead_first, ahead_then, ahead_none, fits-first}
use Rattle.month_table.specs.Table.{place, row, rows_from}
use Rattle.month_table.proofs.Places.{place_below}
use Rattle.month_table.proofs.Sizes.{rows_step, rows_end}
use Rattle.month_table.proofs.putting.put_rows.Goals as goal

pub loop-p-init : goal.loop-p-init
loop-p-init c =
    (omega arith, ahead_first _ _ c.requires)

pub offset_bounds-figures-place_of : goal.offset_bounds-figures-place_of
offset_bounds-figures-place_of c =
    record { fits = omega (arith, c.place_of.ensures, place_below _ c.loop-p-test.true) }

pub bounds-figures-place_of : goal.bounds-figures-place_of
bounds-figures-place_of c =
    omega (arith, c.place_of.ensures, place_below _ c.loop-p-test.true)

pub put_row-requires : goal.put_row-requires
put_row-requires c =
    let figures = c.args.figures in
    let a = rw (rows_step _ figures c.loop-p-test.true) at c.loop-p.invariant.1 in
    record {
      p_bound = c.loop-p-test.true;
      fits = rw c.place_of.ensures
          (fits-first _ (row c.loop-p.p (get_or figures (place c.loop-p.p) 0)) (rows_from (39 - (c.loop-p.p + 1)) (c.loop-p.p + 1) figures) a.fits);
    }

pub loop-p-preserved : goal.loop-p-preserved
loop-p-preserved c =
    let figures = c.args.figures in
    let a = rw (rows_step _ figures c.loop-p-test.true) at c.loop-p.invariant.1 in
    (omega arith, ahead_then (rows_from (39 - (c.loop-p.p + 1)) (c.loop-p.p + 1) figures) a (rw c.place_of.ensures at c.put_row.ensures))

pub returns : goal.returns
returns c =
    let none : 39 - c.loop-p.p ≡ 0 = omega arith in
    ahead_none (rw (none, rows_end) at c.loop-p.invariant.1)

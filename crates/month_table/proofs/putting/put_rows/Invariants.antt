-- `putting::put_rows` meets its contract.
use Prim.Native.Nat.{◌-◌, ◌≤◌}
use Rattle.printing.proofs.Puts.{Ahead}
use Rattle.month_table.specs.Table.{rows_from}
use Rattle.month_table.proofs.putting.put_rows.Given as goal

abbrev pub invariant-loop-p : goal.invariant-loop-p
invariant-loop-p l = (l.p ≤ 39) × Ahead (rows_from 39 0 l.figures) l.initial.out l.out (rows_from (39 - l.p) l.p l.figures)

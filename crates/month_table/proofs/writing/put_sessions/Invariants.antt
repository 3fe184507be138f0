-- `writing::put_sessions` meets its contract.
use Prim.Native.Nat.{◌-◌, ◌*◌, ◌/◌}
use lib.ListN.{length, drop}
use Rattle.printing.proofs.Puts.{Ahead}
use Rattle.month_table.specs.Table.{session_rows}
use Rattle.month_table.proofs.writing.put_sessions.Given as goal

abbrev pub invariant-loop-k : goal.invariant-loop-k
invariant-loop-k l = Ahead (session_rows (length l.digests / 32) l.digests) l.initial.out l.out (session_rows (length l.digests / 32 - l.k) (drop (32 * l.k) l.digests))

-- `writing::put_text` meets its contract.
use mathlib.Core.List.{◌++◌}
use Prim.Native.Nat.{◌/◌}
use lib.ListN.{length}
use Rattle.printing.proofs.Puts.{fits-first, fits_then, put_then}
use Rattle.month_table.specs.Table.{head, rows_from, session_rows, text}
use Rattle.month_table.proofs.writing.put_text.Goals as goal

pub push-requires : goal.push-requires
unfolding text
push-requires c =
    fits-first _ head (rows_from 39 0 c.args.figures ++ session_rows (length c.args.digests.now / 32) c.args.digests.now) c.requires

pub put_rows-requires : goal.put_rows-requires
unfolding text
put_rows-requires c =
    let ds = c.args.digests.now in
    fits-first _ (rows_from 39 0 c.args.figures) (session_rows (length ds / 32) ds)
    (fits_then (rows_from 39 0 c.args.figures ++ session_rows (length ds / 32) ds) c.requires c.push.ensures)

pub put_sessions-requires : goal.put_sessions-requires
unfolding text
put_sessions-requires c =
    let ds = c.args.digests.now in
    fits_then (session_rows (length ds / 32) ds) (fits_then (rows_from 39 0 c.args.figures ++ session_rows (length ds / 32) ds) c.requires
    c.push.ensures) c.put_rows.ensures

pub returns : goal.returns
unfolding text
returns c =
    put_then c.push.ensures (put_then c.put_rows.ensures c.put_sessions.ensures)

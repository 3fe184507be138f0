use mathlib.Core.Path.{◌≡◌}
use Prim.Native.Nat.{◌+◌, ◌-◌, ◌*◌, ◌/◌}
use native.Mathlib.Omega.{arith}
use lib.ListN.{length, take, drop}
use Rattle.printing.proofs.Puts.{ahead_first, ahead_then, ahead_none, fits-first}
use Rattle.month_table.specs.Table.{session_row, session_rows}
use Rattle.month_table.proofs.Sizes.{sessions_step, sessions_end}
use Rattle.month_table.proofs.writing.put_sessions.Goals as goal

pub loop-k-init : goal.loop-k-init
loop-k-init c =
    let all : length c.args.digests.now / 32 - 0 ≡ length c.args.digests.now / 32 = omega arith in
    rw all (ahead_first _ _ c.requires)

pub put_session-requires : goal.put_session-requires
put_session-requires c =
    let ds = c.args.digests.now in
    let a = rw (sessions_step ds (length ds / 32) c.loop-k.k c.loop-k-test.true) at c.loop-k.invariant in
    let size : 32 * c.loop-k.k + 32 - 32 * c.loop-k.k ≡ 32 = omega arith in
    rw size (fits-first _ (session_row (take 32 (drop (32 * c.loop-k.k) ds))) (session_rows (length ds / 32 - (c.loop-k.k + 1)) (drop (32 * (c.loop-k.k + 1)) ds)) a.fits)

pub loop-k-preserved : goal.loop-k-preserved
loop-k-preserved c =
    let ds = c.args.digests.now in
    let a = rw (sessions_step ds (length ds / 32) c.loop-k.k c.loop-k-test.true) at c.loop-k.invariant in
    let size : 32 * c.loop-k.k + 32 - 32 * c.loop-k.k ≡ 32 = omega arith in
    ahead_then (session_rows (length ds / 32 - (c.loop-k.k + 1)) (drop (32 * (c.loop-k.k + 1)) ds)) a (rw size at c.put_session.ensures)

pub returns : goal.returns
returns c =
    let none : length c.args.digests.now / 32 - c.loop-k.k ≡ 0 = omega arith in
    ahead_none (rw (none, sessions_end) at c.loop-k.invariant)

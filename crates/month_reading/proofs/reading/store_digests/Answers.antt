use mathlib.Core.Path.{◌≡◌}
use Prim.Native.Nat.{◌*◌}
use native.Mathlib.Omega.{arith}
use lib.ListN.{drop, length-drop}
use Rattle.month_table.specs.Reading.{digest_in}
use Rattle.month_table.proofs.Parts.{rest_part}
use Rattle.month_reading.proofs.Digests.{stored_none, stored_length, stored_fits, stored_row}
use Rattle.month_reading.proofs.reading.store_digests.Goals as goal

pub loop-k-init : goal.loop-k-init
loop-k-init c =
    stored_none _ _

pub slice_bounds-digest_in-start : goal.slice_bounds-digest_in-start
slice_bounds-digest_in-start c =
    omega (arith, c.requires.0, c.loop-k-test.true)

pub digest_in-digest-requires : goal.digest_in-digest-requires
digest_in-digest-requires c =
    rw (rest_part (75 * c.loop-k.k) c.args.rows.now, length-drop) (omega (arith, c.requires.0, c.loop-k-test.true))

pub store-requires : goal.store-requires
store-requires c =
    let made : c.digest_in-digest.result ≡ digest_in (drop (75 * c.loop-k.k) c.args.rows.now) =
    rw (rest_part (75 * c.loop-k.k) c.args.rows.now) at c.digest_in-digest.ensures in
    rw (made) (stored_fits c.loop-k.invariant _ c.loop-k-test.true c.requires.1)

pub loop-k-preserved : goal.loop-k-preserved
loop-k-preserved c =
    let made : c.digest_in-digest.result ≡ digest_in (drop (75 * c.loop-k.k) c.args.rows.now) =
    rw (rest_part (75 * c.loop-k.k) c.args.rows.now) at c.digest_in-digest.ensures in
    stored_row c.loop-k.invariant (rw (made) at c.store.ensures)

pub shape_of-digests : goal.shape_of-digests
shape_of-digests c =
    stored_length c.loop-k.invariant

pub returns : goal.returns
returns c =
    let all : c.loop-k.k ≡ c.args.count = omega arith in
    rw (← all) c.loop-k.invariant.same

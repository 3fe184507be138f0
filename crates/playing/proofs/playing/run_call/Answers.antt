-- `playing::run_call` meets its contract.
use mathlib.Core.Path.{refl, sym}
use Prim.Native.Nat.{◌≤◌}
use native.Mathlib.Omega.{arith}
use lib.ListN.{length, length-drop}
use lib.Seq.{length-take-le}
use Rattle.playing.proofs.Parts.{back_inside, back_front, back_stored, behind}
use Rattle.playing.proofs.playing.run_call.Goals as goal

pub slice_bounds-call_step-end-2 : goal.slice_bounds-call_step-end-2
slice_bounds-call_step-end-2 c =
    let inside : c.args.size ≤ length c.args.args.now =
    omega (arith, rw c.requires.1 at c.requires.0.inside, c.requires.0.room) in
    sym (length-take-le _ _ (inside))

pub slice_bounds-compare-count : goal.slice_bounds-compare-count
slice_bounds-compare-count c =
    omega (arith, c.requires)

pub slice_bounds-compare-start : goal.slice_bounds-compare-start
slice_bounds-compare-start c =
    omega (arith, c.requires)

pub slice_bounds-compare-end-2 : goal.slice_bounds-compare-end-2
slice_bounds-compare-end-2 c =
    let inside : c.args.size ≤ length c.args.args.now =
    omega (arith, rw c.requires.1 at c.requires.0.inside, c.requires.0.room) in
    back_inside c.args.size c.args.args.now (inside) c.call_step-stepped.new.args c.call_step-stepped.auto.args

pub slice_bounds-compare-end-3 : goal.slice_bounds-compare-end-3
slice_bounds-compare-end-3 c =
    let inside : c.args.size ≤ length c.args.args.now =
    omega (arith, rw c.requires.1 at c.requires.0.inside, c.requires.0.room) in
    sym (length-take-le _ _ (back_inside c.args.size c.args.args.now (inside) c.call_step-stepped.new.args c.call_step-stepped.auto.args))

pub compare-next-requires : goal.compare-next-requires
compare-next-requires c =
    (omega (arith, c.calls_in.ensures, c.requires.0.fewer, c.requires.2), rw (behind 4 c.args.item.now) (omega (arith, length-drop 4 c.args.item.now, c.requires.4)))

pub play_on-requires : goal.play_on-requires
play_on-requires c =
    omega (arith, c.requires)

pub returns : goal.returns
returns c =
    let inside : c.args.size ≤ length c.args.args.now =
    omega (arith, rw c.requires.1 at c.requires.0.inside, c.requires.0.room) in
    let ours = back_front c.args.size c.args.args.now (inside) c.call_step-stepped.new.args c.call_step-stepped.auto.args in
    let stored = back_stored c.args.size c.args.args.now (inside) c.call_step-stepped.new.args c.call_step-stepped.auto.args in
    let report = rw (behind 4 c.args.item.now, ours, c.calls_in.ensures) at c.compare-next.ensures in
    rw (← c.call_step-stepped.ensures.reading_after, c.play_on.ensures, report) (record { value = refl; memory_after = refl; args_after = stored })

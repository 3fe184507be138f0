use Prim.Native.Nat.{◌+◌, ◌<◌, ◌≤◌}
use native.Mathlib.Omega.{arith}
use lib.ListN.{length}
use borrow.Author.Tests.{not-true, not-false}
use Rattle.properties.proofs.Passing.{pass_start, Told, told, node_fits, pass_told, pass_sized, pass_bad, pass_none, pass_ends, pass_oversized}
use Rattle.properties.proofs.following.follow.Goals as goal

pub returns-then-j-gt-SIZE_LIMIT : goal.returns-then-j-gt-SIZE_LIMIT
returns-then-j-gt-SIZE_LIMIT c =
    pass_oversized _ c.if-j-gt-SIZE_LIMIT.true

pub loop-at-init : goal.loop-at-init
loop-at-init c =
    pass_start _ _ _ _ c.then_some.ensures

pub walk_past-walk-requires : goal.walk_past-walk-requires
walk_past-walk-requires c =
    let property : let a = c.args in Told a.j.now c.loop-at.at c.in-Some.p =
    let g = c.loop-at.invariant in
    told _ _ _ _ g.inside c.in-Some.is c.held_at.ensures in
    let t = property in
    (t.within, t.short, omega (arith, t.fits, c.if-j-gt-SIZE_LIMIT.false))

pub overflow_add-at : goal.overflow_add-at
overflow_add-at c =
    let property : let a = c.args in Told a.j.now c.loop-at.at c.in-Some.p =
    let g = c.loop-at.invariant in
    told _ _ _ _ g.inside c.in-Some.is c.held_at.ensures in
    omega (arith, property.fits)

pub loop-at-smaller-in-Some : goal.loop-at-smaller-in-Some
loop-at-smaller-in-Some c =
    let property : let a = c.args in Told a.j.now c.loop-at.at c.in-Some.p =
    let g = c.loop-at.invariant in
    told _ _ _ _ g.inside c.in-Some.is c.held_at.ensures in
    omega (arith, property.fits, property.within)

pub loop-at-preserved-in-Some : goal.loop-at-preserved-in-Some
loop-at-preserved-in-Some c =
    let property : let a = c.args in Told a.j.now c.loop-at.at c.in-Some.p =
    let g = c.loop-at.invariant in
    told _ _ _ _ g.inside c.in-Some.is c.held_at.ensures in
    pass_told c.loop-at.invariant c.loop-at-test.true _ _ (property) c.walk_past-walk.ensures

pub returns-in_default-node_size : goal.returns-in_default-node_size
returns-in_default-node_size c =
    pass_bad c.loop-at.invariant c.loop-at-test.true _ _ c.in_default.is c.held_at.ensures c.node_size.ensures c.in_default-node_size.is

pub overflow_add-at-in_default : goal.overflow_add-at-in_default
overflow_add-at-in_default c =
    let fits : let a = c.args in let size = c.in-Some-node_size.size in (0 < size) × (c.loop-at.at + size ≤ length a.j.now) =
    node_fits _ _ _ c.node_size.ensures _ c.in-Some-node_size.is in
    omega (arith, fits)

pub loop-at-smaller : goal.loop-at-smaller
loop-at-smaller c =
    let fits : let a = c.args in let size = c.in-Some-node_size.size in (0 < size) × (c.loop-at.at + size ≤ length a.j.now) =
    node_fits _ _ _ c.node_size.ensures _ c.in-Some-node_size.is in
    omega (arith, fits)

pub loop-at-preserved : goal.loop-at-preserved
loop-at-preserved c =
    pass_sized c.loop-at.invariant c.loop-at-test.true _ c.node_size.ensures _ c.in-Some-node_size.is

pub returns-then-not-walk : goal.returns-then-not-walk
returns-then-not-walk c =
    pass_none c.loop-at.invariant c.loop-at-test.false c.if-j-gt-SIZE_LIMIT.false (not-true _ c.if-not-walk.true)

pub returns : goal.returns
returns c =
    rw c.ok_or.ensures.value (pass_ends c.loop-at.invariant c.loop-at-test.false c.if-j-gt-SIZE_LIMIT.false (not-false _ c.if-not-walk.false))

-- `lookups::lookup` meets its contract.
use mathlib.Core.Path.{◌≡◌, ◌∙◌, ap}
use mathlib.Core.Bool.{true, false}
use Prim.Native.Nat.{◌+◌}
use native.Mathlib.Omega.{arith}
use borrow.Author.Rules.{rules}
use Rattle.words.proofs.Choice.{decide}
use Rattle.locations.specs.Locations.{location_of, code_of, place_of}
use Rattle.locations.specs.Inner.Terms.{bounds_of}
use Rattle.locations.proofs.LookupClaims.{Bound, bound, part_place, location_claims}
use Rattle.locations.proofs.lookups.lookup.Goals as goal

pub bounds_of-bounds-requires : goal.bounds_of-bounds-requires
bounds_of-bounds-requires c =
    let a = c.args in
    let inside = bound a.area.now a.fixed.now a.index in
    rw c.locate.ensures.value
    (decide (bounds_of (location_of a.area.now a.fixed.now a.index)).fixed
    (λ t. let fits = (inside.in_fixed_claim t).0 in search rules)
    (λ t. let fits = (inside.in_area t).0 in search rules))

pub slice_bounds-result-count : goal.slice_bounds-result-count
slice_bounds-result-count c =
    let inside : Bound c.args.area.now c.args.fixed.now (code_of c.args.area.now c.args.fixed.now (location_of c.args.area.now c.args.fixed.now c.args.index)) c.bounds_of-bounds.result =
    let a = c.args in
    rw (c.bounds_of-bounds.ensures ∙ ap bounds_of c.locate.ensures.value) (bound a.area.now a.fixed.now a.index) in
    inside.forwards

pub slice_bounds-result-start : goal.slice_bounds-result-start
slice_bounds-result-start c =
    let inside : Bound c.args.area.now c.args.fixed.now (code_of c.args.area.now c.args.fixed.now (location_of c.args.area.now c.args.fixed.now c.args.index)) c.bounds_of-bounds.result =
    let a = c.args in
    rw (c.bounds_of-bounds.ensures ∙ ap bounds_of c.locate.ensures.value) (bound a.area.now a.fixed.now a.index) in
    omega (arith, inside.forwards, (inside.in_fixed_claim c.if-in_fixed.true).0)

pub slice_bounds-result-end : goal.slice_bounds-result-end
slice_bounds-result-end c =
    let inside : Bound c.args.area.now c.args.fixed.now (code_of c.args.area.now c.args.fixed.now (location_of c.args.area.now c.args.fixed.now c.args.index)) c.bounds_of-bounds.result =
    let a = c.args in
    rw (c.bounds_of-bounds.ensures ∙ ap bounds_of c.locate.ensures.value) (bound a.area.now a.fixed.now a.index) in
    let forwards = inside.forwards in let fits = (inside.in_fixed_claim c.if-in_fixed.true).0 in search rules

pub slice_bounds-result-count-else-in_fixed : goal.slice_bounds-result-count-else-in_fixed
slice_bounds-result-count-else-in_fixed c =
    let inside : Bound c.args.area.now c.args.fixed.now (code_of c.args.area.now c.args.fixed.now (location_of c.args.area.now c.args.fixed.now c.args.index)) c.bounds_of-bounds.result =
    let a = c.args in
    rw (c.bounds_of-bounds.ensures ∙ ap bounds_of c.locate.ensures.value) (bound a.area.now a.fixed.now a.index) in
    inside.forwards

pub slice_bounds-result-start-else-in_fixed : goal.slice_bounds-result-start-else-in_fixed
slice_bounds-result-start-else-in_fixed c =
    let inside : Bound c.args.area.now c.args.fixed.now (code_of c.args.area.now c.args.fixed.now (location_of c.args.area.now c.args.fixed.now c.args.index)) c.bounds_of-bounds.result =
    let a = c.args in
    rw (c.bounds_of-bounds.ensures ∙ ap bounds_of c.locate.ensures.value) (bound a.area.now a.fixed.now a.index) in
    omega (arith, inside.forwards, (inside.in_area c.if-in_fixed.false).0)

pub slice_bounds-result-end-else-in_fixed : goal.slice_bounds-result-end-else-in_fixed
slice_bounds-result-end-else-in_fixed c =
    let inside : Bound c.args.area.now c.args.fixed.now (code_of c.args.area.now c.args.fixed.now (location_of c.args.area.now c.args.fixed.now c.args.index)) c.bounds_of-bounds.result =
    let a = c.args in
    rw (c.bounds_of-bounds.ensures ∙ ap bounds_of c.locate.ensures.value) (bound a.area.now a.fixed.now a.index) in
    let forwards = inside.forwards in let fits = (inside.in_area c.if-in_fixed.false).0 in search rules

pub returns-then-in_fixed : goal.returns-then-in_fixed
returns-then-in_fixed c =
    let inside : Bound c.args.area.now c.args.fixed.now (code_of c.args.area.now c.args.fixed.now (location_of c.args.area.now c.args.fixed.now c.args.index)) c.bounds_of-bounds.result =
    let a = c.args in
    rw (c.bounds_of-bounds.ensures ∙ ap bounds_of c.locate.ensures.value) (bound a.area.now a.fixed.now a.index) in
    let place : let a = c.args in let l = location_of a.area.now a.fixed.now a.index in let b = c.bounds_of-bounds.result in (b.fixed ≡ true → (a.fixed.ref_ptr.0, b.start + a.fixed.ref_ptr.1) ≡ place_of a.area.ref_ptr a.fixed.ref_ptr l) × (b.fixed ≡ false → (a.area.ref_ptr.0, b.start + a.area.ref_ptr.1) ≡ place_of a.area.ref_ptr a.fixed.ref_ptr l) =
    let a = c.args in
    rw (c.bounds_of-bounds.ensures ∙ ap bounds_of c.locate.ensures.value) (part_place a.area.ref_ptr a.fixed.ref_ptr (location_of a.area.now a.fixed.now a.index)) in
    record { result_value = (inside.in_fixed_claim c.if-in_fixed.true).1; ref_ptr_value = place.0 c.if-in_fixed.true; claims = location_claims }

pub returns-else-in_fixed : goal.returns-else-in_fixed
returns-else-in_fixed c =
    let inside : Bound c.args.area.now c.args.fixed.now (code_of c.args.area.now c.args.fixed.now (location_of c.args.area.now c.args.fixed.now c.args.index)) c.bounds_of-bounds.result =
    let a = c.args in
    rw (c.bounds_of-bounds.ensures ∙ ap bounds_of c.locate.ensures.value) (bound a.area.now a.fixed.now a.index) in
    let place : let a = c.args in let l = location_of a.area.now a.fixed.now a.index in let b = c.bounds_of-bounds.result in (b.fixed ≡ true → (a.fixed.ref_ptr.0, b.start + a.fixed.ref_ptr.1) ≡ place_of a.area.ref_ptr a.fixed.ref_ptr l) × (b.fixed ≡ false → (a.area.ref_ptr.0, b.start + a.area.ref_ptr.1) ≡ place_of a.area.ref_ptr a.fixed.ref_ptr l) =
    let a = c.args in
    rw (c.bounds_of-bounds.ensures ∙ ap bounds_of c.locate.ensures.value) (part_place a.area.ref_ptr a.fixed.ref_ptr (location_of a.area.now a.fixed.now a.index)) in
    record { result_value = (inside.in_area c.if-in_fixed.false).1; ref_ptr_value = place.1 c.if-in_fixed.false; claims = location_claims }

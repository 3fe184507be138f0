-- `sweeping::take_stretch` meets its contract.
use mathlib.Core.Path.{sym}
use native.Mathlib.Omega.{arith}
use lib.Seq.{length-take-le}
use Rattle.intake.specs.Inner.Terms.{Takeable}
use Rattle.intake.proofs.Covering.{room_behind_lem, counts_extend, cut_light, takeable_on, stretch_taken}
use Rattle.intake.proofs.sweeping.take_stretch.Goals as goal

pub slice_bounds-stretch_on-end : goal.slice_bounds-stretch_on-end
slice_bounds-stretch_on-end c =
    sym (length-take-le _ _ (omega (arith, c.min-cut.ensures)))

pub stretch_on-all-requires : goal.stretch_on-all-requires
stretch_on-all-requires c =
    cut_light c.requires _ _ c.room_for-room.ensures c.min-cut.ensures

pub store-requires : goal.store-requires
store-requires c =
    let all : let a = c.args in Takeable a.buffer.now a.held.now a.from a.bytes.now c.stretch_on-all.result =
    takeable_on c.requires _ _ c.room_for-room.ensures c.min-cut.ensures _ c.stretch_on-all.ensures.0 c.stretch_on-all.ensures.1 in
    omega (arith, room_behind_lem (all))

pub overflow_add-used : goal.overflow_add-used
overflow_add-used c =
    let all : let a = c.args in Takeable a.buffer.now a.held.now a.from a.bytes.now c.stretch_on-all.result =
    takeable_on c.requires _ _ c.room_for-room.ensures c.min-cut.ensures _ c.stretch_on-all.ensures.0 c.stretch_on-all.ensures.1 in
    omega (arith, room_behind_lem (all))

pub store-requires-2 : goal.store-requires-2
store-requires-2 c =
    let all : let a = c.args in Takeable a.buffer.now a.held.now a.from a.bytes.now c.stretch_on-all.result =
    takeable_on c.requires _ _ c.room_for-room.ensures c.min-cut.ensures _ c.stretch_on-all.ensures.0 c.stretch_on-all.ensures.1 in
    let t = all in omega (arith, room_behind_lem t, c.store.auto.s, length-take-le _ _ t.covers.inside)

pub extended-requires : goal.extended-requires
extended-requires c =
    let all : let a = c.args in Takeable a.buffer.now a.held.now a.from a.bytes.now c.stretch_on-all.result =
    takeable_on c.requires _ _ c.room_for-room.ensures c.min-cut.ensures _ c.stretch_on-all.ensures.0 c.stretch_on-all.ensures.1 in
    counts_extend (all) (omega arith)

pub returns : goal.returns
returns c =
    let all : let a = c.args in Takeable a.buffer.now a.held.now a.from a.bytes.now c.stretch_on-all.result =
    takeable_on c.requires _ _ c.room_for-room.ensures c.min-cut.ensures _ c.stretch_on-all.ensures.0 c.stretch_on-all.ensures.1 in
    stretch_taken (all) (omega (arith, c.well_formed.1.1.0)) _ _ c.store.ensures c.store-2.ensures _ c.extended.ensures _ c.saturating_add.ensures

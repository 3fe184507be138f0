-- `property::held_at` meets its contract.
use native.Mathlib.Omega.{arith}
use Rattle.journal.proofs.PropertyLaws.{NameFound, held_short, held_frame, held_fits, held_name, held_some}
use Rattle.journal.proofs.property.held_at.Goals as goal

pub returns-then-left-lt-LEAST_SIZE : goal.returns-then-left-lt-LEAST_SIZE
returns-then-left-lt-LEAST_SIZE c =
    rw (held_short c.args.j.now c.args.at c.requires c.if-left-lt-LEAST_SIZE.true)

pub returns-then-not-is_property_frame : goal.returns-then-not-is_property_frame
returns-then-not-is_property_frame c =
    rw (held_frame c.args.j.now c.args.at c.requires _ c.read_frame-frame.ensures _ c.is_property_frame.ensures (c.if-not-is_property_frame.true))

pub slice_bounds-ended_length-count : goal.slice_bounds-ended_length-count
slice_bounds-ended_length-count c =
    omega (
      arith,
      held_fits c.args.j.now c.args.at c.requires _ c.read_frame-frame.ensures _ c.is_property_frame.ensures c.if-not-is_property_frame.false _
          c.record_size-size.ensures,
    )

pub slice_bounds-ended_length-start : goal.slice_bounds-ended_length-start
slice_bounds-ended_length-start c =
    omega (
      arith,
      held_fits c.args.j.now c.args.at c.requires _ c.read_frame-frame.ensures _ c.is_property_frame.ensures c.if-not-is_property_frame.false _
          c.record_size-size.ensures,
    )

pub slice_bounds-ended_length-end : goal.slice_bounds-ended_length-end
slice_bounds-ended_length-end c =
    omega (
      arith,
      held_fits c.args.j.now c.args.at c.requires _ c.read_frame-frame.ensures _ c.is_property_frame.ensures c.if-not-is_property_frame.false _
          c.record_size-size.ensures,
    )

pub returns-in_err-name_length : goal.returns-in_err-name_length
returns-in_err-name_length c =
    rw (held_name c.args.j.now c.args.at c.requires _ c.read_frame-frame.ensures _ c.is_property_frame.ensures c.if-not-is_property_frame.false _
    c.record_size-size.ensures _ c.ended_length.ensures c.in_err-name_length.was) c.from_residual.ensures

pub overflow_add-name_length : goal.overflow_add-name_length
overflow_add-name_length c =
    let found : let a = c.args in NameFound a.j.now a.at c.read_frame-frame.result c.record_size-size.result c.in_ok-name_length.name_length =
    held_some c.args.j.now c.args.at c.requires _ c.read_frame-frame.ensures _ c.is_property_frame.ensures c.if-not-is_property_frame.false _
    c.record_size-size.ensures _ c.ended_length.ensures _ c.in_ok-name_length.was in
    omega (arith, found.within)

pub overflow_sub-size : goal.overflow_sub-size
overflow_sub-size c =
    let found : let a = c.args in NameFound a.j.now a.at c.read_frame-frame.result c.record_size-size.result c.in_ok-name_length.name_length =
    held_some c.args.j.now c.args.at c.requires _ c.read_frame-frame.ensures _ c.is_property_frame.ensures c.if-not-is_property_frame.false _
    c.record_size-size.ensures _ c.ended_length.ensures _ c.in_ok-name_length.was in
    omega (arith, found.within)

pub returns-then-value_most-size : goal.returns-then-value_most-size
returns-then-value_most-size c =
    let found : let a = c.args in NameFound a.j.now a.at c.read_frame-frame.result c.record_size-size.result c.in_ok-name_length.name_length =
    held_some c.args.j.now c.args.at c.requires _ c.read_frame-frame.ensures _ c.is_property_frame.ensures c.if-not-is_property_frame.false _
    c.record_size-size.ensures _ c.ended_length.ensures _ c.in_ok-name_length.was in
    rw (found.over (omega (arith, c.value_most.ensures, c.if-value_most-size.true)))

pub returns : goal.returns
returns c =
    let found : let a = c.args in NameFound a.j.now a.at c.read_frame-frame.result c.record_size-size.result c.in_ok-name_length.name_length =
    held_some c.args.j.now c.args.at c.requires _ c.read_frame-frame.ensures _ c.is_property_frame.ensures c.if-not-is_property_frame.false _
    c.record_size-size.ensures _ c.ended_length.ensures _ c.in_ok-name_length.was in
    rw (
      found.good (omega (arith, c.value_most.ensures, c.if-value_most-size.false)),
      found.length_is,
      c.record_size-size.ensures,
      c.read_frame-frame.ensures,
      c.read_le32.ensures,
    )

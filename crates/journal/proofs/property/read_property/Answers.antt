-- `property::read_property` meets its contract.
use mathlib.Core.Path.{◌≡◌, ap, ◌∙◌}
use Prim.Native.Nat.{◌+◌, ◌≤◌}
use native.Mathlib.Omega.{arith}
use lib.ListN.{length, drop}
use Rattle.words.proofs.Ranges.{range_is}
use Rattle.records.specs.Records.{length_of, size_of, first_record}
use Rattle.records.specs.declared.framing.Frame.{Frame}
use Rattle.journal.specs.Property.{name_of}
use Rattle.journal.proofs.PropertyLaws.{property_fits, property_frame_lem, name_is}
use Rattle.journal.proofs.property.read_property.Goals as goal

pub read_frame-frame-requires : goal.read_frame-frame-requires
read_frame-frame-requires c =
    let fits : let here = drop c.args.at c.args.j.now in (8 ≤ length_of here) × (c.args.at + size_of here ≤ length c.args.j.now) =
    let framed = property_frame_lem c.args.j.now c.args.at c.requires.inside c.requires.good in
    (framed.large, omega (arith, c.requires.inside, property_fits c.args.j.now c.args.at c.requires.inside c.requires.good)) in
    omega (arith, fits)

pub read_le32-requires : goal.read_le32-requires
read_le32-requires c =
    let fits : let here = drop c.args.at c.args.j.now in (8 ≤ length_of here) × (c.args.at + size_of here ≤ length c.args.j.now) =
    let framed = property_frame_lem c.args.j.now c.args.at c.requires.inside c.requires.good in
    (framed.large, omega (arith, c.requires.inside, property_fits c.args.j.now c.args.at c.requires.inside c.requires.good)) in
    omega (arith, fits)

pub slice_bounds-until_nul-count : goal.slice_bounds-until_nul-count
slice_bounds-until_nul-count c =
    let size_is : c.record_size-size.result ≡ size_of (drop c.args.at c.args.j.now) =
    c.record_size-size.ensures ∙ ap (λ (f : Frame). f.length + 2) c.read_frame-frame.ensures in
    let fits : let here = drop c.args.at c.args.j.now in (8 ≤ length_of here) × (c.args.at + size_of here ≤ length c.args.j.now) =
    let framed = property_frame_lem c.args.j.now c.args.at c.requires.inside c.requires.good in
    (framed.large, omega (arith, c.requires.inside, property_fits c.args.j.now c.args.at c.requires.inside c.requires.good)) in
    omega (arith, size_is, fits)

pub slice_bounds-until_nul-start : goal.slice_bounds-until_nul-start
slice_bounds-until_nul-start c =
    let size_is : c.record_size-size.result ≡ size_of (drop c.args.at c.args.j.now) =
    c.record_size-size.ensures ∙ ap (λ (f : Frame). f.length + 2) c.read_frame-frame.ensures in
    let fits : let here = drop c.args.at c.args.j.now in (8 ≤ length_of here) × (c.args.at + size_of here ≤ length c.args.j.now) =
    let framed = property_frame_lem c.args.j.now c.args.at c.requires.inside c.requires.good in
    (framed.large, omega (arith, c.requires.inside, property_fits c.args.j.now c.args.at c.requires.inside c.requires.good)) in
    omega (arith, size_is, fits)

pub slice_bounds-until_nul-end : goal.slice_bounds-until_nul-end
slice_bounds-until_nul-end c =
    let size_is : c.record_size-size.result ≡ size_of (drop c.args.at c.args.j.now) =
    c.record_size-size.ensures ∙ ap (λ (f : Frame). f.length + 2) c.read_frame-frame.ensures in
    let fits : let here = drop c.args.at c.args.j.now in (8 ≤ length_of here) × (c.args.at + size_of here ≤ length c.args.j.now) =
    let framed = property_frame_lem c.args.j.now c.args.at c.requires.inside c.requires.good in
    (framed.large, omega (arith, c.requires.inside, property_fits c.args.j.now c.args.at c.requires.inside c.requires.good)) in
    omega (arith, size_is, fits)

pub returns : goal.returns
returns c =
    let size_is : c.record_size-size.result ≡ size_of (drop c.args.at c.args.j.now) =
    c.record_size-size.ensures ∙ ap (λ (f : Frame). f.length + 2) c.read_frame-frame.ensures in
    let named : c.until_nul.result ≡ length (name_of (first_record (drop c.args.at c.args.j.now))) =
    c.until_nul.ensures ∙ rw (range_is c.args.j.now (c.args.at + 8) (c.args.at + c.record_size-size.result), size_is, name_is c.args.j.now c.args.at c.requires.inside c.requires.good) in
    rw (named, size_is, c.read_frame-frame.ensures, c.read_le32.ensures)

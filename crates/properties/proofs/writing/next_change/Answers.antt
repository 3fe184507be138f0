use mathlib.Core.Path.{◌≡◌, sym, ap, ◌∙◌}
use Prim.Native.Nat.{◌+◌, ◌≤◌}
use native.Mathlib.Omega.{arith}
use lib.ListN.{length, drop}
use Rattle.records.specs.Records.{size_of, length_of, first_record}
use Rattle.records.specs.declared.framing.Frame.{Frame}
use Rattle.journal.proofs.Sizes.{sized_here}
use Rattle.properties.specs.Changes.{is_of}
use Rattle.properties.proofs.Seeking.{sought_start, sought_step, sought_here, sought_end, good_here_lem}
use Rattle.properties.proofs.writing.next_change.Goals as goal

pub loop-at-init : goal.loop-at-init
loop-at-init c =
    sought_start c.requires

pub is_change-requires : goal.is_change-requires
is_change-requires c =
    (good_here_lem c.loop-at.invariant.onward c.loop-at-test.true, omega (arith, c.loop-at-test.true))

pub read_frame-requires : goal.read_frame-requires
read_frame-requires c =
    let sized : let j = c.args.j.now in let at = c.loop-at.at in (2 ≤ length_of (drop at j)) × (at + size_of (drop at j) ≤ length j) =
    let j = c.args.j.now in
    let s = sized_here j c.loop-at.at (good_here_lem c.loop-at.invariant.onward c.loop-at-test.true) in
    (omega (arith, s), s.1) in
    omega (arith, sized)

pub overflow_add-at : goal.overflow_add-at
overflow_add-at c =
    let size_is : c.record_size-at.result ≡ size_of (drop c.loop-at.at c.args.j.now) =
    c.record_size-at.ensures ∙ ap (λ (f : Frame). f.length + 2) c.read_frame.ensures in
    let sized : let j = c.args.j.now in let at = c.loop-at.at in (2 ≤ length_of (drop at j)) × (at + size_of (drop at j) ≤ length j) =
    let j = c.args.j.now in
    let s = sized_here j c.loop-at.at (good_here_lem c.loop-at.invariant.onward c.loop-at-test.true) in
    (omega (arith, s), s.1) in
    omega (arith, size_is, sized)

pub loop-at-smaller : goal.loop-at-smaller
loop-at-smaller c =
    let size_is : c.record_size-at.result ≡ size_of (drop c.loop-at.at c.args.j.now) =
    c.record_size-at.ensures ∙ ap (λ (f : Frame). f.length + 2) c.read_frame.ensures in
    let sized : let j = c.args.j.now in let at = c.loop-at.at in (2 ≤ length_of (drop at j)) × (at + size_of (drop at j) ≤ length j) =
    let j = c.args.j.now in
    let s = sized_here j c.loop-at.at (good_here_lem c.loop-at.invariant.onward c.loop-at-test.true) in
    (omega (arith, s), s.1) in
    omega (arith, size_is, sized)

pub loop-at-preserved : goal.loop-at-preserved
unfolding is_of
loop-at-preserved c =
    let size_is : c.record_size-at.result ≡ size_of (drop c.loop-at.at c.args.j.now) =
    c.record_size-at.ensures ∙ ap (λ (f : Frame). f.length + 2) c.read_frame.ensures in
    let told : c.is_change.result ≡ is_of c.args.phandle (first_record (drop c.loop-at.at c.args.j.now)) =
    c.is_change.ensures in
    sought_step c.loop-at.invariant _ (size_is) c.loop-at-test.true (sym (told) ∙ c.if-is_change.false)

pub returns-after-loop-at : goal.returns-after-loop-at
returns-after-loop-at c =
    sought_end c.loop-at.invariant c.loop-at-test.false

pub returns-then-is_change : goal.returns-then-is_change
unfolding is_of
returns-then-is_change c =
    let told : c.is_change.result ≡ is_of c.args.phandle (first_record (drop c.loop-at.at c.args.j.now)) =
    c.is_change.ensures in
    sought_here c.loop-at.invariant c.loop-at-test.true (sym (told) ∙ c.if-is_change.true)

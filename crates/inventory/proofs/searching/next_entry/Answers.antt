use mathlib.Core.Path.{◌≡◌, sym, ap, ◌∙◌}
use Prim.Native.Nat.{◌+◌}
use native.Mathlib.Omega.{arith}
use lib.ListN.{drop}
use Rattle.records.specs.Records.{size_of}
use Rattle.records.specs.declared.framing.Frame.{Frame}
use Rattle.inventory.proofs.OtherCodes.{search_agrees, search_witness, others_unjudged}
use Rattle.inventory.proofs.Search.{sought_start, record_sought, sought_step, sought_place}
use Rattle.inventory.proofs.searching.next_entry.Goals as goal

pub loop-wanted-init : goal.loop-wanted-init
loop-wanted-init c =
    sought_start c.requires.0 c.requires.1

pub is_at-requires : goal.is_at-requires
is_at-requires c =
    record_sought c.loop-wanted.invariant

pub read_frame-requires : goal.read_frame-requires
read_frame-requires c =
    omega (arith, record_sought c.loop-wanted.invariant)

pub overflow_add-at : goal.overflow_add-at
overflow_add-at c =
    let size_is : c.record_size-at.result ≡ size_of (drop c.loop-wanted.at c.args.inventory.now) =
    c.record_size-at.ensures ∙ ap (λ (f : Frame). f.length + 2) c.read_frame.ensures in
    omega (arith, size_is, record_sought c.loop-wanted.invariant)

pub loop-wanted-smaller : goal.loop-wanted-smaller
loop-wanted-smaller c =
    let size_is : c.record_size-at.result ≡ size_of (drop c.loop-wanted.at c.args.inventory.now) =
    c.record_size-at.ensures ∙ ap (λ (f : Frame). f.length + 2) c.read_frame.ensures in
    omega (arith, size_is, record_sought c.loop-wanted.invariant)

pub loop-wanted-preserved : goal.loop-wanted-preserved
loop-wanted-preserved c =
    let size_is : c.record_size-at.result ≡ size_of (drop c.loop-wanted.at c.args.inventory.now) =
    c.record_size-at.ensures ∙ ap (λ (f : Frame). f.length + 2) c.read_frame.ensures in
    sought_step c.loop-wanted.invariant _ (size_is) (sym c.is_at.ensures ∙ c.loop-wanted-test.true)

pub returns : goal.returns
returns c =
    record { value = sought_place c.loop-wanted.invariant (sym c.is_at.ensures ∙ c.loop-wanted-test.false); others = (search_agrees, search_witness, others_unjudged) }

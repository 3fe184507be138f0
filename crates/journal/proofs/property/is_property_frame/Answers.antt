-- `property::is_property_frame` meets its contract.
use mathlib.Core.Path.{◌≡◌, ◌∙◌, sym}
use mathlib.Core.Bool.{◌&&◌, and-false}
use Prim.Native.Nat.{ℕ, ◌+◌, ◌≤◌}
use native.Mathlib.Omega.{arith}
use lib.Dec.{leb}
use borrow.Author.Tests.{le-leb, lt-leb, leb-true, leb-false}
use Rattle.words.proofs.Choice.{decide}
use Rattle.journal.specs.Property.{value_most, property_frame}
use Rattle.journal.proofs.PropertyLaws.{frame_kind, frame_above, frame_length, value_most_le}
use Rattle.journal.proofs.property.is_property_frame.Goals as goal

-- with room for the record and one of the two kinds the length decides
decides : (left len kind size most : ℕ) → size ≡ len + 2 → most ≡ value_most kind → size ≤ left → 5 ≤ kind → kind ≤ 6
    → (leb (len + 2) left && property_frame len kind) ≡ (leb 10 size && leb size (40 + most))
decides left len kind size most e q h low high =
    rw (frame_length len kind low high, le-leb (len + 2) left (omega arith), e, q) (decide (leb 8 len)
    (λ t. let l = leb-true 8 len t in rw (t, le-leb 10 (len + 2) (omega arith)) (decide (leb len (38 + value_most kind))
    (λ f. f ∙ sym (le-leb (len + 2) (40 + value_most kind) (omega (arith, leb-true len (38 + value_most kind) f))))
    (λ f. f ∙ sym (lt-leb (len + 2) (40 + value_most kind) (omega (arith, leb-false len (38 + value_most kind) f))))))
    (λ t. rw (t, lt-leb 10 (len + 2) (omega (arith, leb-false 8 len t)))))

pub returns-then-kind-lt5 : goal.returns-then-kind-lt5
returns-then-kind-lt5 c =
    rw (frame_kind c.args.frame.length c.args.frame.kind c.if-kind-lt5.true, and-false _)

pub returns-then-kind-gt6 : goal.returns-then-kind-gt6
returns-then-kind-gt6 c =
    rw (frame_above c.args.frame.length c.args.frame.kind c.if-kind-gt6.true, and-false _)

pub returns-then-left-size : goal.returns-then-left-size
returns-then-left-size c =
    rw (lt-leb (c.args.frame.length + 2) c.args.left (omega (arith, c.record_size-size.ensures)))

pub overflow_add-most : goal.overflow_add-most
overflow_add-most c =
    omega (arith, value_most_le c.args.frame.kind)

pub returns-then-size-ge-LEAST_SIZE : goal.returns-then-size-ge-LEAST_SIZE
returns-then-size-ge-LEAST_SIZE c =
    let tests : let a = c.args in let size = c.record_size-size.result in (leb (a.frame.length + 2) a.left && property_frame a.frame.length a.frame.kind) ≡ (leb 10 size && leb size (40 + c.value_most-most.result)) =
    let a = c.args in
    decides a.left a.frame.length a.frame.kind _ _ c.record_size-size.ensures c.value_most-most.ensures c.if-left-size.false c.if-kind-lt5.false c.if-kind-gt6.false in
    sym (tests ∙ rw (le-leb 10 c.record_size-size.result c.if-size-ge-LEAST_SIZE.true))

pub returns-else-size-ge-LEAST_SIZE : goal.returns-else-size-ge-LEAST_SIZE
returns-else-size-ge-LEAST_SIZE c =
    let tests : let a = c.args in let size = c.record_size-size.result in (leb (a.frame.length + 2) a.left && property_frame a.frame.length a.frame.kind) ≡ (leb 10 size && leb size (40 + c.value_most-most.result)) =
    let a = c.args in
    decides a.left a.frame.length a.frame.kind _ _ c.record_size-size.ensures c.value_most-most.ensures c.if-left-size.false c.if-kind-lt5.false c.if-kind-gt6.false in
    sym (tests ∙ rw (lt-leb 10 c.record_size-size.result c.if-size-ge-LEAST_SIZE.false))

use native.Mathlib.Omega.{arith}
use Rattle.readers.proofs.NodeWords.{walking_first, walking_length, walking_all, walking_fits, walking_operator, walking_inside, walking_next}
use Rattle.readers.proofs.reading_nodes.store_operations.Goals as goal

pub loop-i-init : goal.loop-i-init
loop-i-init c =
    walking_first _ _ _ c.requires.1 c.requires.2

pub read_be32-word-requires : goal.read_be32-word-requires
read_be32-word-requires c =
    walking_fits c.loop-i.invariant c.loop-i-test.true

pub overflow_add-at : goal.overflow_add-at
overflow_add-at c =
    omega (arith, walking_fits c.loop-i.invariant c.loop-i-test.true)

pub store_operands-stored-requires : goal.store_operands-stored-requires
store_operands-stored-requires c =
    let s = c.loop-i.invariant in
    let more = c.loop-i-test.true in
    let word = c.read_be32-word.ensures in
    let operator = walking_operator s more _ word in
    (walking_fits s more, operator.fits, omega (arith, walking_length s), operator.range)

pub overflow_add-i : goal.overflow_add-i
overflow_add-i c =
    omega (arith, c.store_operands-stored.ensures.value)

pub overflow_add-at-in-loop-i : goal.overflow_add-at-in-loop-i
overflow_add-at-in-loop-i c =
    omega (arith, walking_inside c.loop-i.invariant c.loop-i-test.true _ c.read_be32-word.ensures)

pub overflow_mul-at : goal.overflow_mul-at
overflow_mul-at c =
    omega (arith, walking_inside c.loop-i.invariant c.loop-i-test.true _ c.read_be32-word.ensures)

pub overflow_add-at-in-loop-i-2 : goal.overflow_add-at-in-loop-i-2
overflow_add-at-in-loop-i-2 c =
    omega (arith, walking_inside c.loop-i.invariant c.loop-i-test.true _ c.read_be32-word.ensures)

pub loop-i-smaller : goal.loop-i-smaller
loop-i-smaller c =
    omega (arith, walking_inside c.loop-i.invariant c.loop-i-test.true _ c.read_be32-word.ensures)

pub loop-i-preserved : goal.loop-i-preserved
loop-i-preserved c =
    walking_next c.loop-i.invariant c.loop-i-test.true _ c.read_be32-word.ensures _ _ c.store_operands-stored.ensures.value c.store_operands-stored.ensures.out_after

pub shape_of-out : goal.shape_of-out
shape_of-out c =
    walking_length c.loop-i.invariant

pub returns : goal.returns
returns c =
    walking_all c.loop-i.invariant c.loop-i-test.false

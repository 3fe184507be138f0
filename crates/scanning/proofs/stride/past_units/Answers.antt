use Rattle.std.proofs.Common.{◌+◌, ◌*◌, ◌≤◌, eqb, get_or, add-zero, mul-zero, arith}
use Rattle.records.proofs.Choosing.{one_if_le}
use Rattle.journal.specs.Terms.{tallied}
use Rattle.scanning.specs.Inner.Terms.{Reached}
use Rattle.journal.proofs.RecordLaws.{asked_same}
use Rattle.scanning.proofs.Weighing.{asked_none, tally_two}
use Rattle.scanning.proofs.Reaching.{position, reached_units}
use Rattle.scanning.proofs.stride.past_units.Goals as goal

pub returns-then-weights-weight : goal.returns-then-weights-weight
returns-then-weights-weight c =
    (c.requires.0, omega arith)

pub loop-at-init : goal.loop-at-init
loop-at-init c =
    (rw (asked_none c.args.selection.now.units, mul-zero (get_or c.args.weights.now 143 0), add-zero c.args.from.counts) c.requires.0, omega arith, omega arith, omega arith)

pub overflow_add-at : goal.overflow_add-at
overflow_add-at c =
    omega (arith, c.loop-at.invariant.0.inside, c.requires.3)

pub has_two_units-requires : goal.has_two_units-requires
has_two_units-requires c =
    omega (arith, c.requires.2)

pub read_unit-requires : goal.read_unit-requires
read_unit-requires c =
    omega (arith, c.requires.2)

pub overflow_add-at-in-loop-at : goal.overflow_add-at-in-loop-at
overflow_add-at-in-loop-at c =
    omega (arith, c.loop-at.invariant.0.inside, c.requires.3)

pub read_unit-requires-in-loop-at : goal.read_unit-requires-in-loop-at
read_unit-requires-in-loop-at c =
    omega (arith, c.requires.2)

pub overflow_add-same : goal.overflow_add-same
overflow_add-same c =
    let bits : (c.same_unit.result ≤ 1) × (c.same_unit-in-loop-at.result ≤ 1) =
    let wanted = c.wanted_unit-wanted.result in (
      rw c.same_unit.ensures (one_if_le (eqb c.read_unit.result wanted)),
      rw c.same_unit-in-loop-at.ensures
          (one_if_le (eqb c.read_unit-in-loop-at.result wanted)),
    ) in
    omega (arith, bits)

pub overflow_add-same-in-loop-at : goal.overflow_add-same-in-loop-at
overflow_add-same-in-loop-at c =
    let bits : (c.same_unit.result ≤ 1) × (c.same_unit-in-loop-at.result ≤ 1) =
    let wanted = c.wanted_unit-wanted.result in (
      rw c.same_unit.ensures (one_if_le (eqb c.read_unit.result wanted)),
      rw c.same_unit-in-loop-at.ensures
          (one_if_le (eqb c.read_unit-in-loop-at.result wanted)),
    ) in
    omega (
      arith,
      bits,
      c.loop-at.invariant,
      c.requires.3,
    )

pub overflow_add-passed : goal.overflow_add-passed
overflow_add-passed c =
    omega (
      arith,
      c.loop-at.invariant,
      c.requires.3,
    )

pub overflow_add-at-in-loop-at-2 : goal.overflow_add-at-in-loop-at-2
overflow_add-at-in-loop-at-2 c =
    omega (
      arith,
      c.loop-at.invariant.0.inside,
      c.requires.3,
    )

pub loop-at-smaller : goal.loop-at-smaller
loop-at-smaller c =
    omega arith

pub loop-at-preserved : goal.loop-at-preserved
loop-at-preserved c =
    let turn : Reached c.args.selection.now c.args.j.now (position (c.loop-at.at + 36) (c.args.from.counts + get_or c.args.weights.now 143 0 * tallied c.args.selection.now.units (c.loop-at.passed + 2) (c.loop-at.same + (c.same_unit.result + c.same_unit-in-loop-at.result)))) =
    let units = c.args.selection.now.units in
    let two = c.has_two_units.ensures (c.if-not-has_two_units.false) in
    rw (← tally_two units c.loop-at.passed c.loop-at.same c.same_unit.result c.same_unit-in-loop-at.result)
    (reached_units _ c.args.j.now c.args.weights.now c.requires.3 c.requires.1
    c.if-weights-weight.false c.loop-at.at c.args.from.counts (tallied units c.loop-at.passed c.loop-at.same) _ _
    (omega arith) two
    (rw (c.same_unit.ensures, c.read_unit.ensures, c.wanted_unit-wanted.ensures)
    (asked_same units _))
    (rw (c.same_unit-in-loop-at.ensures, c.read_unit-in-loop-at.ensures, c.wanted_unit-wanted.ensures) (asked_same units _)) c.loop-at.invariant.0) in
    let bits : (c.same_unit.result ≤ 1) × (c.same_unit-in-loop-at.result ≤ 1) =
    let wanted = c.wanted_unit-wanted.result in (
      rw c.same_unit.ensures (one_if_le (eqb c.read_unit.result wanted)),
      rw c.same_unit-in-loop-at.ensures
          (one_if_le (eqb c.read_unit-in-loop-at.result wanted)),
    ) in
    (turn, omega (arith, c.loop-at.invariant.1), omega (arith, c.loop-at.invariant.2), omega (arith, c.loop-at.invariant.3, bits))

pub overflow_mul-result : goal.overflow_mul-result
overflow_mul-result c =
    rw c.tally-asked.ensures (omega (arith, c.loop-at.invariant.0.packed))

pub overflow_add-result : goal.overflow_add-result
overflow_add-result c =
    rw c.tally-asked.ensures (omega (arith, c.loop-at.invariant.0.packed))

pub returns : goal.returns
returns c =
    rw c.tally-asked.ensures (c.loop-at.invariant.0, c.loop-at.invariant.1)

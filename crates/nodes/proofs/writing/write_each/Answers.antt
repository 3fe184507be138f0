use mathlib.Core.Path.{refl, ap, ◌∙◌}
use Prim.Native.Nat.{ℕ, ◌+◌, ◌-◌, ◌*◌, ◌≤◌}
use native.Mathlib.Omega.{arith}
use lib.ListN.{length, drop}
use lib.Seq.{sets}
use Rattle.journal.specs.Scope.{asking}
use Rattle.records.proofs.Choosing.{one_if_le}
use Rattle.journal.specs.Journal.{entry_of, number}
use Rattle.journal.specs.Reportable.{reports}
use Rattle.nodes.proofs.Writes.{width_some, Writing, writing_start, writing_end, due_inside, due_record, mul_one_le, once_le, turn}
use Rattle.nodes.specs.Inner.Writing.{width, due_words}
use Rattle.records.specs.Records.{first_record}
use Rattle.words.specs.Numbers.{word_bytes}
use Rattle.nodes.proofs.writing.write_each.Goals as goal

pub overflow_mul-step : goal.overflow_mul-step
overflow_mul-step c =
    omega (arith, c.width_of-step.ensures, width_some (number c.args.part.opcode))

pub overflow_add-to : goal.overflow_add-to
overflow_add-to c =
    omega (arith, c.requires.1)

pub loop-due-init : goal.loop-due-init
loop-due-init c =
    (writing_start (asking c.args.row.now c.args.units) c.args.j.now _ _ _ _ _ c.requires.0 c.requires.1, refl, ap (λ (n : ℕ). 4 * n) c.width_of-step.ensures)

pub visit-p-requires : goal.visit-p-requires
visit-p-requires c =
    let a = c.args in
    let d = c.loop-due.invariant.0.due in
    (due_inside (asking a.row.now a.units) a.j.now _ _ _ d c.loop-due-test.true, d.sound)

pub overflow_add-at : goal.overflow_add-at
overflow_add-at c =
    let moves : let size = c.visit-p.result.size in (10 ≤ size) × (c.loop-due.at + size ≤ length c.args.j.now) =
    let a = c.args in
    rw c.visit-p.ensures.0 (due_record (asking a.row.now a.units) a.j.now _ _ _ c.loop-due.invariant.0.due c.loop-due-test.true) in
    omega (arith, moves)

pub store_operands-requires : goal.store_operands-requires
store_operands-requires c =
    let moves : let size = c.visit-p.result.size in (10 ≤ size) × (c.loop-due.at + size ≤ length c.args.j.now) =
    let a = c.args in
    rw c.visit-p.ensures.0 (due_record (asking a.row.now a.units) a.j.now _ _ _ c.loop-due.invariant.0.due c.loop-due-test.true) in
    let m = moves in
    (omega (arith, c.loop-due.invariant.0.room, mul_one_le (width (number c.args.part.opcode)) c.loop-due.due c.loop-due-test.true), omega (arith, m), m.1)

pub overflow_mul-to : goal.overflow_mul-to
overflow_mul-to c =
    let once : c.visit-p.result.reported ≤ 1 =
    let a = c.args in
    rw c.visit-p.ensures.1 (one_if_le (reports (asking a.row.now a.units) (number a.part.opcode) (entry_of (first_record (drop c.loop-due.at a.j.now))))) in
    let adds : 4 * c.width_of-step.result * c.visit-p.result.reported ≤ 8 =
    omega (arith, once_le (4 * c.width_of-step.result) c.visit-p.result.reported (once), c.width_of-step.ensures, width_some (number c.args.part.opcode)) in
    omega (arith, adds)

pub overflow_add-to-in-loop-due : goal.overflow_add-to-in-loop-due
overflow_add-to-in-loop-due c =
    let once : c.visit-p.result.reported ≤ 1 =
    let a = c.args in
    rw c.visit-p.ensures.1 (one_if_le (reports (asking a.row.now a.units) (number a.part.opcode) (entry_of (first_record (drop c.loop-due.at a.j.now))))) in
    let adds : 4 * c.width_of-step.result * c.visit-p.result.reported ≤ 8 =
    omega (arith, once_le (4 * c.width_of-step.result) c.visit-p.result.reported (once), c.width_of-step.ensures, width_some (number c.args.part.opcode)) in
    omega (arith, adds, c.loop-due.invariant.0.room, c.loop-due.invariant.1)

pub overflow_sub-due : goal.overflow_sub-due
overflow_sub-due c =
    let once : c.visit-p.result.reported ≤ 1 =
    let a = c.args in
    rw c.visit-p.ensures.1 (one_if_le (reports (asking a.row.now a.units) (number a.part.opcode) (entry_of (first_record (drop c.loop-due.at a.j.now))))) in
    omega (arith, once, c.loop-due-test.true)

pub loop-due-smaller : goal.loop-due-smaller
loop-due-smaller c =
    let moves : let size = c.visit-p.result.size in (10 ≤ size) × (c.loop-due.at + size ≤ length c.args.j.now) =
    let a = c.args in
    rw c.visit-p.ensures.0 (due_record (asking a.row.now a.units) a.j.now _ _ _ c.loop-due.invariant.0.due c.loop-due-test.true) in
    omega (arith, moves)

pub loop-due-preserved : goal.loop-due-preserved
loop-due-preserved c =
    let done : let a = c.args in let p = c.visit-p.result in let aim = sets a.area.now (a.part.to + 4) (word_bytes (due_words (asking a.row.now a.units) a.j.now (number a.part.opcode) a.from a.part.count)) in Writing aim (asking a.row.now a.units) a.j.now (number a.part.opcode) c.store_operands.new.area (c.loop-due.at + p.size) (c.loop-due.to + 4 * width (number a.part.opcode) * p.reported) (c.loop-due.due - p.reported) =
    let a = c.args in
    let p = c.visit-p.ensures in
    rw (c.store_operands.ensures, p.0, p.1) (turn _ (asking a.row.now a.units) a.j.now _ _ _ _ _ c.loop-due.invariant.0 c.loop-due-test.true) in
    let i = c.loop-due.invariant in
    (rw i.2 (done), c.store_operands.auto.area ∙ i.1, i.2)

pub shape_of-area : goal.shape_of-area
shape_of-area c =
    c.loop-due.invariant.1

pub returns : goal.returns
returns c =
    let a = c.args in
    writing_end _ (asking a.row.now a.units) a.j.now _ _ _ _ _ c.loop-due.invariant.0 (omega arith)

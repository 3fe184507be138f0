-- `writing::write_part` meets its contract.
use mathlib.Core.List.{List}
use mathlib.Core.Path.{sym, ap, ◌∙◌}
use Prim.Native.Nat.{ℕ, ◌+◌, ◌*◌, ◌≤◌}
use native.Mathlib.Omega.{arith}
use lib.ListN.{length, take, drop}
use Rattle.journal.specs.Journal.{entries, number}
use Rattle.journal.proofs.Opcodes.{number_is}
use Rattle.journal.specs.Reportable.{chosen}
use Rattle.nodes.proofs.Runs.{operator_pos}
use Rattle.nodes.proofs.Writes.{due_length, found_due, found_words, Sized, sized, no_part, part_stored}
use Rattle.nodes.specs.Inner.Terms.{words_of}
use Rattle.nodes.specs.Inner.Writing.{width, Due}
use Rattle.nodes.proofs.writing.write_part.Goals as goal

pub returns-then-count-eq0 : goal.returns-then-count-eq0
returns-then-count-eq0 c =
    let a = c.args in
    let both = no_part a.area.now a.selection.now a.j.now (number a.part.opcode) a.part.first a.part.count a.part.to c.if-count-eq0.true in
    record { value = both.0; area_after = both.1 }

pub find-from-requires : goal.find-from-requires
find-from-requires c =
    (c.requires.0, c.requires.1, omega (arith, c.requires.2, c.if-count-eq0.false))

pub overflow_mul-operands : goal.overflow_mul-operands
overflow_mul-operands c =
    let sizes : let a = c.args in Sized (width (number a.part.opcode)) c.width_of.result a.part.count =
    sized (number c.args.part.opcode) _ _ c.width_of.ensures (omega (arith, c.if-count-eq0.false)) c.requires.3 in
    omega (arith, sizes)

pub overflow_add-code : goal.overflow_add-code
overflow_add-code c =
    let sizes : let a = c.args in Sized (width (number a.part.opcode)) c.width_of.result a.part.count =
    sized (number c.args.part.opcode) _ _ c.width_of.ensures (omega (arith, c.if-count-eq0.false)) c.requires.3 in
    omega (arith, sizes, (number_is c.args.part.opcode))

pub overflow_cast-code : goal.overflow_cast-code
overflow_cast-code c =
    let sizes : let a = c.args in Sized (width (number a.part.opcode)) c.width_of.result a.part.count =
    sized (number c.args.part.opcode) _ _ c.width_of.ensures (omega (arith, c.if-count-eq0.false)) c.requires.3 in
    omega (arith, sizes, (number_is c.args.part.opcode))

pub store_be32-requires : goal.store_be32-requires
store_be32-requires c =
    let sizes : let a = c.args in Sized (width (number a.part.opcode)) c.width_of.result a.part.count =
    sized (number c.args.part.opcode) _ _ c.width_of.ensures (omega (arith, c.if-count-eq0.false)) c.requires.3 in
    let room : let a = c.args in a.part.to + 4 * (1 + width (number a.part.opcode) * a.part.count) ≤ length a.area.now =
    omega (arith, c.requires.4, operator_pos (width (number c.args.part.opcode) * c.args.part.count) (omega (arith, sizes))) in
    omega (arith, room)

pub write_operands-requires : goal.write_operands-requires
write_operands-requires c =
    let due : let a = c.args in Due a.selection.now a.j.now (number a.part.opcode) c.find-from.result a.part.count =
    found_due c.args.selection.now c.args.j.now _ _ _ _ c.find-from.ensures c.requires.0 (number_is c.args.part.opcode) (omega (arith, c.requires.2, c.if-count-eq0.false)) in
    let sizes : let a = c.args in Sized (width (number a.part.opcode)) c.width_of.result a.part.count =
    sized (number c.args.part.opcode) _ _ c.width_of.ensures (omega (arith, c.if-count-eq0.false)) c.requires.3 in
    let room : let a = c.args in a.part.to + 4 * (1 + width (number a.part.opcode) * a.part.count) ≤ length a.area.now =
    omega (arith, c.requires.4, operator_pos (width (number c.args.part.opcode) * c.args.part.count) (omega (arith, sizes))) in
    (due, omega (arith, room, c.store_be32.auto.s))

pub overflow_add-result : goal.overflow_add-result
overflow_add-result c =
    let sizes : let a = c.args in Sized (width (number a.part.opcode)) c.width_of.result a.part.count =
    sized (number c.args.part.opcode) _ _ c.width_of.ensures (omega (arith, c.if-count-eq0.false)) c.requires.3 in
    omega (arith, sizes)

pub overflow_mul-result : goal.overflow_mul-result
overflow_mul-result c =
    let sizes : let a = c.args in Sized (width (number a.part.opcode)) c.width_of.result a.part.count =
    sized (number c.args.part.opcode) _ _ c.width_of.ensures (omega (arith, c.if-count-eq0.false)) c.requires.3 in
    omega (arith, sizes)

pub overflow_add-result-2 : goal.overflow_add-result-2
overflow_add-result-2 c =
    let sizes : let a = c.args in Sized (width (number a.part.opcode)) c.width_of.result a.part.count =
    sized (number c.args.part.opcode) _ _ c.width_of.ensures (omega (arith, c.if-count-eq0.false)) c.requires.3 in
    let room : let a = c.args in a.part.to + 4 * (1 + width (number a.part.opcode) * a.part.count) ≤ length a.area.now =
    omega (arith, c.requires.4, operator_pos (width (number c.args.part.opcode) * c.args.part.count) (omega (arith, sizes))) in
    omega (arith, sizes, room)

pub returns : goal.returns
returns c =
    let sizes : let a = c.args in Sized (width (number a.part.opcode)) c.width_of.result a.part.count =
    sized (number c.args.part.opcode) _ _ c.width_of.ensures (omega (arith, c.if-count-eq0.false)) c.requires.3 in
    let due : let a = c.args in Due a.selection.now a.j.now (number a.part.opcode) c.find-from.result a.part.count =
    found_due c.args.selection.now c.args.j.now _ _ _ _ c.find-from.ensures c.requires.0 (number_is c.args.part.opcode) (omega (arith, c.requires.2, c.if-count-eq0.false)) in
    let a = c.args in
    let selection = a.selection.now in
    let j = a.j.now in
    let n = sizes in
    let found = found_words selection j _ _ _ a.part.count c.find-from.ensures in record {
      value = omega (arith, n.is, operator_pos (width (number a.part.opcode) * a.part.count) (omega (arith, n.is, n.some)));
      area_after = part_stored a.area.now c.store_be32.new.s c.write_operands.new.area a.part.to (number a.part.opcode) _ (words_of (take a.part.count (drop a.part.first (chosen selection (number a.part.opcode) (entries j)))))
          (n.is ∙ sym (due_length selection j _ _ _ (due)) ∙ ap (λ (l : List ℕ). length l) found) n.some (rw c.number-code.ensures at c.store_be32.ensures)
          (c.write_operands.ensures ∙ rw found);
    }

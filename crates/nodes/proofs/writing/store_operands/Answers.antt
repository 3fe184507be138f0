-- `writing::store_operands` meets its contract.
use mathlib.Core.List.{[], ◌∷◌}
use mathlib.Core.Path.{refl, ap, ◌∙◌}
use native.Mathlib.Omega.{arith}
use Rattle.journal.specs.Journal.{number}
use Rattle.journal.proofs.Opcodes.{not_third}
use Rattle.nodes.proofs.Writes.{width_some, width_three, operands_three, operands_other}
use Rattle.words.proofs.Stores.{store_first, store_next}
use Rattle.nodes.proofs.writing.store_operands.Goals as goal

pub store_be32-requires : goal.store_be32-requires
store_be32-requires c =
    omega (arith, c.requires.0, width_some (number c.args.opcode))

pub store_be32-requires-in-Add : goal.store_be32-requires-in-Add
store_be32-requires-in-Add c =
    omega (arith, c.requires.0, width_three (number c.args.opcode) (ap number c.in-Add.is), c.store_be32.auto.s)

pub store_be32-requires-in_default : goal.store_be32-requires-in_default
store_be32-requires-in_default c =
    omega (arith, c.requires.0, width_some (number c.args.opcode))

pub returns-in-Add : goal.returns-in-Add
returns-in-Add c =
    let l = c.args.area.now in
    store_next l c.store_be32.new.s c.args.to c.read_operand-in-Add.result c.store_be32-in-Add.new.s _ (c.read_operand.result ∷ []) (store_first l c.store_be32.new.s c.args.to c.read_operand.result c.store_be32.ensures) c.store_be32-in-Add.ensures refl
    ∙ rw (operands_three c.args.j.now (number c.args.opcode) c.args.end (ap number c.in-Add.is), c.read_operand.ensures, c.read_operand-in-Add.ensures)

pub returns-in_default : goal.returns-in_default
returns-in_default c =
    store_first c.args.area.now c.store_be32-in_default.new.s c.args.to c.read_operand-in_default.result c.store_be32-in_default.ensures
    ∙ rw (operands_other c.args.j.now (number c.args.opcode) c.args.end (not_third c.args.opcode c.in_default.not-Add), c.read_operand-in_default.ensures)

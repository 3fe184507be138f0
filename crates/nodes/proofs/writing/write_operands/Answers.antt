-- `writing::write_operands` meets its contract.
use Rattle.journal.specs.Journal.{number}
use Rattle.journal.specs.Scope.{asking}
use Rattle.nodes.specs.Inner.Writing.{Due}
use Rattle.nodes.proofs.writing.write_operands.Goals as goal

pub write_each-requires : goal.write_each-requires
write_each-requires c =
    let a = c.args in
    let due : Due (asking a.selection.now.sets a.selection.now.units) a.j.now (number a.part.opcode) a.from a.part.count = c.requires.0 in
    (rw c.in-All.is at due, c.requires.1)

pub write_each-requires-in-One : goal.write_each-requires-in-One
write_each-requires-in-One c =
    let a = c.args in
    let due : Due (asking a.selection.now.sets a.selection.now.units) a.j.now (number a.part.opcode) a.from a.part.count = c.requires.0 in
    (rw c.in-One.is at due, c.requires.1)

pub returns-in-All : goal.returns-in-All
returns-in-All c =
    rw (← c.in-All.is) at c.write_each.ensures

pub returns-in-One : goal.returns-in-One
returns-in-One c =
    rw (← c.in-One.is) at c.write_each-in-One.ensures

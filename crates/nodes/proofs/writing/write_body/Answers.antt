-- `writing::write_body` meets its contract.
use mathlib.Core.Path.{◌∙◌}
use native.Mathlib.Omega.{arith}
use Rattle.nodes.proofs.Answers.{body_stored}
use Rattle.nodes.proofs.Writes.{part_length}
use Rattle.journal.proofs.Opcodes.{code_1, code_2, code_3}
use Rattle.nodes.specs.Inner.Writing.{part_from, body_from}
use Rattle.nodes.proofs.writing.write_body.Goals as goal

pub write_part-second-requires : goal.write_part-second-requires
write_part-second-requires c =
    let h = c.requires.3 in
    (c.requires.1, c.requires.2, h.deletes, omega (arith, h.room), omega (arith, h.room, c.requires.0))

pub write_part-third-requires : goal.write_part-third-requires
write_part-third-requires c =
    let h = c.requires.3 in
    (c.requires.1, c.requires.2, h.updates, omega (arith, h.room), omega (arith, h.room, c.requires.0, c.write_part-second.ensures.value, c.write_part-second.auto.area))

pub write_part-end-requires : goal.write_part-end-requires
write_part-end-requires c =
    let h = c.requires.3 in
    (c.requires.1, c.requires.2, h.additions, omega (arith, h.room), omega (arith, h.room, c.requires.0, c.write_part-second.ensures.value, c.write_part-second.auto.area, c.write_part-third.ensures.value, c.write_part-third.auto.area))

pub store_be32-requires : goal.store_be32-requires
store_be32-requires c =
    omega (arith, c.requires.3.room, c.requires.0, c.write_part-second.ensures.value, c.write_part-second.auto.area, c.write_part-third.ensures.value, c.write_part-third.auto.area, c.write_part-end.ensures.value, c.write_part-end.auto.area)

pub returns : goal.returns
unfolding body_from
returns c =
    let a = c.args in
    let h = c.requires.3 in
    let selection = a.selection.now in
    let j = a.j.now in
    body_stored a.area.now c.write_part-second.new.area c.write_part-third.new.area c.write_part-end.new.area c.store_be32.new.s
    (part_from selection j 1 a.handing.passed.deletes a.handing.run.deletes) (part_from selection j 2 a.handing.passed.updates a.handing.run.updates) (part_from selection j 3 a.handing.passed.additions a.handing.run.additions)
    c.write_part-second.result c.write_part-third.result c.write_part-end.result
    c.write_part-second.ensures.area_after (c.write_part-second.ensures.value ∙ rw (part_length selection j 1 a.handing.passed.deletes a.handing.run.deletes code_1 h.deletes))
    c.write_part-third.ensures.area_after (c.write_part-third.ensures.value ∙ rw (part_length selection j 2 a.handing.passed.updates a.handing.run.updates code_2 h.updates))
    c.write_part-end.ensures.area_after (c.write_part-end.ensures.value ∙ rw (part_length selection j 3 a.handing.passed.additions a.handing.run.additions code_3 h.additions))
    c.store_be32.ensures

-- `answering::write_answer` meets its contract.
use mathlib.Core.Path.{◌∙◌}
use native.Mathlib.Omega.{arith}
use Rattle.properties.proofs.Answers.{answer_stored, answer_more}
use Rattle.properties.proofs.answering.write_answer.Goals as goal

pub write_due-handed-requires : goal.write_due-handed-requires
write_due-handed-requires c =
    (c.requires.0, c.requires.1)

pub overflow_cast-due : goal.overflow_cast-due
overflow_cast-due c =
    omega (arith, c.unwrap_or-due.ensures, c.write_due-handed.ensures.inside, c.requires.2)

pub overflow_cast-handed : goal.overflow_cast-handed
overflow_cast-handed c =
    omega (arith, c.write_due-handed.ensures.few)

pub returns : goal.returns
returns c =
    let d = c.write_due-handed.ensures in
    record { value = c.is_some.ensures ∙ answer_more d; area_after = answer_stored d c.write_head.new.area _ c.requires.0 c.unwrap_or-due.ensures c.write_head.ensures }

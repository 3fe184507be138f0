-- `walking::reported` meets its contract.
use mathlib.Core.Path.{◌∙◌}
use borrow.Author.Tests.{eq-eqb, ne_eqb}
use Rattle.journal.proofs.walking.reported.Goals as goal

pub returns-then-opcode_of-code : goal.returns-then-opcode_of-code
returns-then-opcode_of-code c =
    c.in_set-bit.ensures ∙ rw (← c.opcode_of.ensures, ← c.number-code.ensures, eq-eqb _ _ c.if-opcode_of-code.true)

pub returns-else-opcode_of-code : goal.returns-else-opcode_of-code
returns-else-opcode_of-code c =
    rw (← c.opcode_of.ensures, ← c.number-code.ensures, ne_eqb _ _ c.if-opcode_of-code.false)

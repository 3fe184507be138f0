-- `marks::Marks::seek` meets its contract.
use native.Mathlib.Omega.{arith}
use Rattle.journal.specs.Journal.{number}
use Rattle.journal.specs.Marks.{listed}
use Rattle.journal.proofs.MarkLaws.{last_before_few}
use Rattle.journal.proofs.marks.Marks.seek.Goals as goal

pub overflow_sub-result : goal.overflow_sub-result
overflow_sub-result c =
    omega (arith, last_before_few (number c.args.opcode) c.args.k (listed c.args.self.now) c.in-Some.mark c.in-Some.ensures)

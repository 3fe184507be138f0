-- `marks::count_of` meets its contract.
use native.Mathlib.Omega.{arith}
use Rattle.journal.proofs.marks.count_of.Goals as goal

pub returns-in-Delete : goal.returns-in-Delete
returns-in-Delete c =
    rw c.in-Delete.is (omega arith)

pub returns-in-Update : goal.returns-in-Update
returns-in-Update c =
    rw c.in-Update.is (omega arith)

pub returns-in-Add : goal.returns-in-Add
returns-in-Add c =
    rw c.in-Add.is (omega arith)

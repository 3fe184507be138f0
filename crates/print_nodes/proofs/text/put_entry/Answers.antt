-- `text::put_entry` meets its contract.
use Rattle.printing.specs.Text.{operand, space}
use Rattle.print_nodes.specs.Text.{add-}
use Rattle.printing.proofs.Puts.{fits-first, fits_then, put_then}
use Rattle.print_nodes.proofs.text.put_entry.Goals as goal

pub push_operand-requires : goal.push_operand-requires
push_operand-requires c =
    rw c.in-Delete.is at c.requires

pub push_operand-requires-in-Update : goal.push_operand-requires-in-Update
push_operand-requires-in-Update c =
    rw c.in-Update.is at c.requires

pub push_operand-requires-in-Add : goal.push_operand-requires-in-Add
push_operand-requires-in-Add c =
    fits-first _ (operand add- _) (operand space _) (rw c.in-Add.is at c.requires)

pub push_operand-requires-in-Add-2 : goal.push_operand-requires-in-Add-2
push_operand-requires-in-Add-2 c =
    fits_then (operand space _) (rw c.in-Add.is at c.requires) c.push_operand-in-Add.ensures

pub returns-in-Delete : goal.returns-in-Delete
returns-in-Delete c =
    rw c.in-Delete.is c.push_operand.ensures

pub returns-in-Update : goal.returns-in-Update
returns-in-Update c =
    rw c.in-Update.is c.push_operand-in-Update.ensures

pub returns-in-Add : goal.returns-in-Add
returns-in-Add c =
    rw c.in-Add.is (put_then c.push_operand-in-Add.ensures c.push_operand-in-Add-2.ensures)

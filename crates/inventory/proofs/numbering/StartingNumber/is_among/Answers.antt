-- `numbering::StartingNumber::is_among` meets its contract.
use borrow.Author.Tests.{le-leb, lt-leb}
use Rattle.inventory.proofs.numbering.StartingNumber.is_among.Goals as goal

pub returns-then-self-ge1 : goal.returns-then-self-ge1
returns-then-self-ge1 c =
    rw (le-leb 1 _ c.if-self-ge1.true)

pub returns-else-self-ge1 : goal.returns-else-self-ge1
returns-else-self-ge1 c =
    rw (lt-leb 1 _ c.if-self-ge1.false)

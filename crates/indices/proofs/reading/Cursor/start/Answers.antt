-- `reading::Cursor::start` meets its contract.
use borrow.Author.Tests.{lt-ltb, le-ltb}
use Rattle.indices.proofs.IndexLaws.{entries_in_order}
use Rattle.indices.proofs.reading.Cursor.start.Goals as goal

pub returns-then-area-lt4 : goal.returns-then-area-lt4
returns-then-area-lt4 c =
    record { value = rw (lt-ltb _ _ c.if-area-lt4.true); order = entries_in_order }

pub returns : goal.returns
returns c =
    record { value = rw (le-ltb _ _ c.if-area-lt4.false, c.read_be32-left.ensures); order = entries_in_order }

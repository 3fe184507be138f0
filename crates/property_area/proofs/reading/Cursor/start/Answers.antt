-- `reading::Cursor::start` meets its contract.
use borrow.Author.Tests.{lt-ltb, le-ltb}
use Rattle.property_area.proofs.PropertyLaws.{properties_in_order}
use Rattle.property_area.proofs.reading.Cursor.start.Goals as goal

pub returns-then-area-lt-FIRST_AT : goal.returns-then-area-lt-FIRST_AT
returns-then-area-lt-FIRST_AT c =
    record { value = rw (lt-ltb _ _ c.if-area-lt-FIRST_AT.true); order = properties_in_order }

pub returns : goal.returns
returns c =
    record { value = rw (le-ltb _ _ c.if-area-lt-FIRST_AT.false, c.read_be32-left.ensures); order = properties_in_order }

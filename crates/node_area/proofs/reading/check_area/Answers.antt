-- `reading::check_area` meets its contract.
use borrow.Author.Tests.{eq-eqb, ne_eqb}
use Rattle.node_area.specs.Head.{area_size}
use Rattle.node_area.specs.Reading.{reading}
use Rattle.node_area.specs.Claims.Reader.{NodeReaderExactly}
use Rattle.node_area.specs.Cases.Reading.{ReadingCases}
use Rattle.words.proofs.Words.{words_drop}
use Rattle.node_area.proofs.ReaderClaims.{node_reader_exactly}
use Rattle.node_area.proofs.ReadingCases.{reading_cases_lem}
use Rattle.node_area.proofs.reading.check_area.Goals as goal

claims : NodeReaderExactly × ReadingCases
claims = (node_reader_exactly, reading_cases_lem)

pub returns-then-area-ne-AREA_SIZE : goal.returns-then-area-ne-AREA_SIZE
unfolding reading
returns-then-area-ne-AREA_SIZE c =
    record { value = rw (ne_eqb _ area_size c.if-area-ne-AREA_SIZE.true); exactly = claims.0; cases = claims.1 }

pub returns-then-not-is_reserved : goal.returns-then-not-is_reserved
unfolding reading
returns-then-not-is_reserved c =
    record { value = rw (eq-eqb _ area_size c.if-area-ne-AREA_SIZE.false, ← c.is_reserved.ensures, c.if-not-is_reserved.true-raw, c.reserved_from.ensures); exactly = claims.0; cases = claims.1 }

pub returns : goal.returns
unfolding reading
returns c =
    record { value = rw (eq-eqb _ area_size c.if-area-ne-AREA_SIZE.false, ← c.is_reserved.ensures, c.if-not-is_reserved.false-raw, words_drop 4 _) c.check_operators.ensures; exactly = claims.0; cases = claims.1 }

use mathlib.Core.Path.{◌≡◌, sym, ◌∙◌}
use borrow.Author.Rules.{rules}
use borrow.Author.Tests.{lt-ltb}
use Rattle.indices.proofs.Claims.{area_claims}
use Rattle.indices.proofs.ReaderClaims.{index_reader_exactly}
use Rattle.indices.proofs.IndexLaws.{stands_first, stands_end, stands_bad, stands_fine}
use Rattle.std.specs.Prelude.{Err}
use Rattle.indices.specs.declared.reading.Refusal.TheVariants.{Past}
use Rattle.indices.specs.Reading.{length_at, fault_at, reading}
use Rattle.indices.proofs.reading.check_area.Goals as goal

pub returns-then-area-lt4 : goal.returns-then-area-lt4
unfolding reading
returns-then-area-lt4 c =
    record { value = rw (lt-ltb _ 4 c.if-area-lt4.true); claims = area_claims; exactly = index_reader_exactly }

pub loop-passed-init : goal.loop-passed-init
loop-passed-init c =
    stands_first c.args.area.now c.read_be32-count.result c.if-area-lt4.false c.read_be32-count.ensures

pub returns-then-area-at-lt8 : goal.returns-then-area-at-lt8
unfolding fault_at
returns-then-area-at-lt8 c =
    let past : fault_at c.args.area.now c.loop-passed.at ≡ Err Past =
    rw (lt-ltb _ 8 c.if-area-at-lt8.true) in
    record { value = stands_bad c.args.area.now c.read_be32-count.result c.loop-passed.at c.loop-passed.passed c.loop-passed.invariant c.loop-passed-test.true _ (past); claims = area_claims; exactly = index_reader_exactly }

pub fault_of-requires : goal.fault_of-requires
unfolding length_at
fault_of-requires c =
    (search rules, c.read_be32-n.ensures)

pub returns-in-Err : goal.returns-in-Err
returns-in-Err c =
    record { value = stands_bad c.args.area.now c.read_be32-count.result c.loop-passed.at c.loop-passed.passed c.loop-passed.invariant c.loop-passed-test.true _ (sym c.fault_of.ensures ∙ c.in-Err.is); claims = area_claims; exactly = index_reader_exactly }

pub loop-passed-preserved : goal.loop-passed-preserved
loop-passed-preserved c =
    stands_fine c.args.area.now c.read_be32-count.result c.loop-passed.at c.loop-passed.passed c.loop-passed.invariant c.loop-passed-test.true _ c.read_be32-n.ensures (sym c.fault_of.ensures ∙ c.in-Ok.is)

pub returns : goal.returns
returns c =
    record { value = stands_end c.args.area.now c.read_be32-count.result c.loop-passed.at c.loop-passed.passed c.loop-passed.invariant c.loop-passed-test.false; claims = area_claims; exactly = index_reader_exactly }

-- `writing::write_table` meets its contract.
use native.Mathlib.Omega.{arith}
use mathlib.Core.Path.{◌≡◌, ap, ◌∙◌}
use Prim.Native.Nat.{◌≤◌, ◌<◌}
use lib.ListN.{length}
use Rattle.std.proofs.Common.{rules}
use Rattle.month_table.specs.Writing.{buffer_after}
use Rattle.month_table.specs.Table.{text}
use Rattle.month_table.proofs.Sizes.{length_text}
use Rattle.month_table.proofs.Answering.{odd_answer, odd_buffer, short_answer, short_buffer, written_answer, written_buffer}
use Rattle.month_table.proofs.writing.write_table.Goals as goal

pub returns-then-digests-ne0 : goal.returns-then-digests-ne0
returns-then-digests-ne0 c =
    record { value = odd_answer _ _ c.if-digests-ne0.true _; out_after = odd_buffer _ _ c.if-digests-ne0.true _ }

pub returns-in_default : goal.returns-in_default
returns-in_default c =
    let w = c.if-digests-ne0.false in
    let long = length_text c.args.table.figures c.args.digests.now w in
    let short : length c.args.out.now < length (text c.args.table.figures c.args.digests.now) = omega (arith, long, c.in_default.ensures) in
    record { value = short_answer _ _ w _ _ (short) (omega (arith, long, c.in_default.ensures)); out_after = short_buffer _ _ w _ (short) }

pub returns-then-out-length : goal.returns-then-out-length
returns-then-out-length c =
    let w = c.if-digests-ne0.false in
    let long = length_text c.args.table.figures c.args.digests.now w in
    let short : length c.args.out.now < length (text c.args.table.figures c.args.digests.now) = omega (arith, long, c.in-Some.ensures.1, c.if-out-length.true) in
    record { value = short_answer _ _ w _ _ (short) (omega (arith, long, c.in-Some.ensures)); out_after = short_buffer _ _ w _ (short) }

pub put_text-requires : goal.put_text-requires
put_text-requires c =
    let long = length_text c.args.table.figures c.args.digests.now c.if-digests-ne0.false in
    omega (arith, ap length c.new-text.ensures.held, long, c.in-Some.ensures.1, c.if-out-length.false)

pub returns-clause-value : goal.returns-clause-value
returns-clause-value c =
    let w = c.if-digests-ne0.false in
    let long = length_text c.args.table.figures c.args.digests.now w in
    written_answer _ _ w _ _ (omega (arith, long, c.in-Some.ensures.1, c.if-out-length.false)) (omega (arith, c.put_text.ensures.place))

pub returns-clause-out_after : goal.returns-clause-out_after
returns-clause-out_after c =
    let w = c.if-digests-ne0.false in
    let long = length_text c.args.table.figures c.args.digests.now w in
    let fits : length (text c.args.table.figures c.args.digests.now) ≤ length c.args.out.now = omega (arith, long, c.in-Some.ensures.1, c.if-out-length.false) in
    let written : c.put_text.new.out.buffer.now ≡ buffer_after c.args.table.figures c.args.digests.now c.args.out.now =
    (rw (c.new-text.ensures.held, c.new-text.ensures.empty) at c.put_text.ensures.stored) ∙ written_buffer _ _ w _ (fits) in
    search rules

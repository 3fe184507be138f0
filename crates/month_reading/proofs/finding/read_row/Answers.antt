-- `finding::read_row` meets its contract.
use native.Mathlib.Omega.{arith}
use mathlib.Core.Path.{◌≡◌, sym, ap, ◌∙◌}
use Prim.Native.Nat.{◌≤◌}
use lib.ListN.{length}
use Rattle.month_table.specs.Table.{row}
use Rattle.month_table.specs.Reading.{begins}
use Rattle.month_table.proofs.Sizes.{row_short, put_front, put_inside}
use Rattle.month_reading.proofs.Searches.{begins_is}
use Rattle.month_reading.proofs.Turns.{row_over, row_taken, row_other}
use Rattle.month_reading.proofs.ReadAnswers.{count_label}
use Rattle.month_reading.proofs.finding.read_row.Goals as goal

pub returns-in_err-count : goal.returns-in_err-count
returns-in_err-count c =
    c.from_residual.ensures ∙ row_over _ _ (c.in_err-count.ensures ∙ count_label _ _ _ c.label_length.ensures)

pub put_row-requires : goal.put_row-requires
put_row-requires c =
    record { p_bound = c.requires; fits = omega (arith, ap length c.new-row.ensures.held, row_short c.args.p c.in_ok-count.count c.requires) }

pub bytes-requires : goal.bytes-requires
bytes-requires c =
    let row_fits : length (row c.args.p c.in_ok-count.count) ≤ length c.new-row.result.buffer.now =
    omega (arith, ap length c.new-row.ensures.held, row_short c.args.p c.in_ok-count.count c.requires) in
    put_inside c.put_row.ensures c.new-row.ensures.empty (row_fits)

pub returns-then-starts_with : goal.returns-then-starts_with
returns-then-starts_with c =
    let row_fits : length (row c.args.p c.in_ok-count.count) ≤ length c.new-row.result.buffer.now =
    omega (arith, ap length c.new-row.ensures.held, row_short c.args.p c.in_ok-count.count c.requires) in
    let made : c.bytes.result.now ≡ row c.args.p c.in_ok-count.count = c.bytes.ensures ∙ put_front c.put_row.ensures c.new-row.ensures.empty (row_fits) in
    let compared : begins (row c.args.p c.in_ok-count.count) c.args.text.now ≡ c.starts_with.result =
    sym (c.starts_with.ensures.value ∙ begins_is c.bytes.result.now c.args.text.now ∙ rw made) in
    let size : c.put_row.new.out.length ≡ length (row c.args.p c.in_ok-count.count) = omega (arith, c.put_row.ensures.place, c.new-row.ensures.empty) in
    rw size (row_taken _ _ _ (c.in_ok-count.ensures ∙ count_label _ _ _ c.label_length.ensures) (compared ∙ c.if-starts_with.true))

pub returns : goal.returns
returns c =
    let row_fits : length (row c.args.p c.in_ok-count.count) ≤ length c.new-row.result.buffer.now =
    omega (arith, ap length c.new-row.ensures.held, row_short c.args.p c.in_ok-count.count c.requires) in
    let made : c.bytes.result.now ≡ row c.args.p c.in_ok-count.count = c.bytes.ensures ∙ put_front c.put_row.ensures c.new-row.ensures.empty (row_fits) in
    let compared : begins (row c.args.p c.in_ok-count.count) c.args.text.now ≡ c.starts_with.result =
    sym (c.starts_with.ensures.value ∙ begins_is c.bytes.result.now c.args.text.now ∙ rw made) in
    row_other _ _ _ (c.in_ok-count.ensures ∙ count_label _ _ _ c.label_length.ensures) (compared ∙ c.if-starts_with.false)

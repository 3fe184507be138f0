-- `text::print_area` meets its contract.
use mathlib.Core.Path.{refl, ap}
use native.Mathlib.Omega.{arith}
use lib.ListN.{length}
use Rattle.print_indices.proofs.Sizes.{text_fits, printed_text, printed_none, promise}
use Rattle.print_indices.proofs.text.print_area.Goals as goal

pub returns-then-input-gt-INPUT_LIMIT : goal.returns-then-input-gt-INPUT_LIMIT
returns-then-input-gt-INPUT_LIMIT c =
    rw (printed_none _ c.if-input-gt-INPUT_LIMIT.true) record { value = refl; out_after = refl; promise = promise }

pub put_text-requires : goal.put_text-requires
put_text-requires c =
    omega (arith, ap length c.new-text.ensures.held, text_fits c.args.input.now c.args.out.now (omega (arith, c.if-input-gt-INPUT_LIMIT.false)))

pub returns : goal.returns
returns c =
    let same = printed_text c.args.input.now c.if-input-gt-INPUT_LIMIT.false in
    record {
      value = rw same (omega (arith, c.put_text.ensures.place));
      out_after = rw same (rw (c.new-text.ensures.held, c.new-text.ensures.empty) at c.put_text.ensures.stored);
      promise = promise;
    }

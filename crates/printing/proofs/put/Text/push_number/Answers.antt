-- `Text::push_number` meets its contract.
use mathlib.Core.Path.{◌≡◌, ◌∙◌}
use native.Mathlib.Omega.{arith}
use lib.ListN.{take}
use Rattle.printing.specs.Text.{decimal, numbered}
use Rattle.printing.proofs.Puts.{fits-first, fits_then, put_then}
use Rattle.printing.proofs.Digits.{decimal-digits}
use Rattle.printing.proofs.put.Text.push_number.Goals as goal

pub push-requires : goal.push-requires
unfolding numbered
push-requires c =
    fits-first _ c.args.word.now (decimal c.args.v) c.requires

pub push-requires-2 : goal.push-requires-2
unfolding numbered
push-requires-2 c =
    let made : take c.decimal-n.result c.decimal-n.new.out ≡ decimal c.args.v =
    c.decimal-n.ensures.digits ∙ decimal-digits _ _ (omega arith) c.decimal-n.ensures.len in
    rw (made)
    (fits_then (decimal c.args.v) c.requires c.push.ensures)

pub returns : goal.returns
unfolding numbered
returns c =
    let made : take c.decimal-n.result c.decimal-n.new.out ≡ decimal c.args.v =
    c.decimal-n.ensures.digits ∙ decimal-digits _ _ (omega arith) c.decimal-n.ensures.len in
    put_then c.push.ensures (rw (made) at c.push-2.ensures)

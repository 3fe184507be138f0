-- `Text::push_operand` meets its contract.
use Rattle.printing.specs.Text.{hex, operand}
use Rattle.printing.proofs.Puts.{fits-first, fits_then, put_then}
use Rattle.printing.proofs.put.Text.push_operand.Goals as goal

pub push-requires : goal.push-requires
unfolding operand
push-requires c =
    fits-first _ c.args.word.now (hex c.args.v) c.requires

pub push_hex-requires-clause-fits : goal.push_hex-requires-clause-fits
unfolding operand
push_hex-requires-clause-fits c =
    rw c.from.ensures (fits_then (hex _) c.requires c.push.ensures)

pub returns : goal.returns
unfolding operand
returns c =
    put_then c.push.ensures (rw c.from.ensures at c.push_hex.ensures)

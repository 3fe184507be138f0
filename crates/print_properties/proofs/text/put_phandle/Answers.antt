-- `text::put_phandle` meets its contract.
use Rattle.printing.specs.Text.{newline, operand}
use Rattle.printing.proofs.Puts.{fits-first, fits_then, put_then}
use Rattle.print_properties.specs.Text.{phandle-}
use Rattle.print_properties.proofs.text.put_phandle.Goals as goal

pub push_operand-requires : goal.push_operand-requires
push_operand-requires c =
    fits-first _ (operand phandle- _) newline c.requires

pub push-requires : goal.push-requires
push-requires c =
    fits_then newline c.requires c.push_operand.ensures

pub returns : goal.returns
returns c =
    put_then c.push_operand.ensures c.push.ensures

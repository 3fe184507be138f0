-- `Text::push_named` meets its contract.
use Rattle.printing.proofs.Puts.{fits-first, fits_then, put_then}
use Rattle.printing.specs.Text.{each, name_byte}
use Rattle.printing.proofs.put.Text.push_named.Goals as goal

pub push-requires : goal.push-requires
push-requires c =
    fits-first _ c.args.word.now (each name_byte c.args.name.now) c.requires

pub push_name-requires : goal.push_name-requires
push_name-requires c =
    fits_then (each name_byte _) c.requires c.push.ensures

pub returns : goal.returns
returns c =
    put_then c.push.ensures c.push_name.ensures

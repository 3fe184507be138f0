-- `Text::push_ended` meets its contract.
use Rattle.printing.specs.Text.{newline, numbered, ended}
use Rattle.printing.proofs.Puts.{fits-first, fits_then, put_then}
use Rattle.printing.proofs.put.Text.push_ended.Goals as goal

pub push_number-requires : goal.push_number-requires
unfolding ended
push_number-requires c =
    fits-first _ (numbered c.args.word.now c.args.v) newline c.requires

pub push-requires : goal.push-requires
unfolding ended
push-requires c =
    fits_then newline c.requires c.push_number.ensures

pub returns : goal.returns
unfolding ended
returns c =
    put_then c.push_number.ensures c.push.ensures

-- `Text::push_refusal` meets its contract.
use Rattle.printing.specs.Text.{refused-, -at-, numbered, ended}
use Rattle.printing.proofs.Puts.{fits-first, fits_then, put_then}
use Rattle.printing.proofs.put.Text.push_refusal.Goals as goal

pub push_number-requires : goal.push_number-requires
push_number-requires c =
    fits-first _ (numbered refused- _) (ended -at- c.args.offset) c.requires

pub push_ended-requires : goal.push_ended-requires
push_ended-requires c =
    fits_then (ended -at- _) c.requires c.push_number.ensures

pub returns : goal.returns
returns c =
    put_then c.push_number.ensures c.push_ended.ensures

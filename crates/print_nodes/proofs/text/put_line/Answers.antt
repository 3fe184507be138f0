-- `text::put_line` meets its contract.
use Rattle.printing.specs.Text.{newline}
use Rattle.print_nodes.specs.Text.{entry, line}
use Rattle.printing.proofs.Puts.{fits-first, fits_then, put_then}
use Rattle.print_nodes.proofs.text.put_line.Goals as goal

pub put_entry-requires : goal.put_entry-requires
unfolding line
put_entry-requires c =
    fits-first _ (entry c.args.o) newline c.requires

pub push-requires : goal.push-requires
unfolding line
push-requires c =
    fits_then newline c.requires c.put_entry.ensures

pub returns : goal.returns
unfolding line
returns c =
    put_then c.put_entry.ensures c.push.ensures

-- `text::put_line` meets its contract.
use Rattle.property_area.specs.Reading.{piece_in}
use Rattle.printing.specs.Text.{newline}
use Rattle.printing.proofs.Puts.{fits-first, fits_then, put_then}
use Rattle.print_properties.specs.Text.{entry, line}
use Rattle.print_properties.proofs.Entries.{located_fits, located_put}
use Rattle.print_properties.proofs.text.put_line.Goals as goal

pub put_entry-requires : goal.put_entry-requires
unfolding line
put_entry-requires c =
    let input = c.args.input.now in
    located_fits input c.args.l _ (fits-first _ (entry (piece_in input c.args.l)) newline c.requires.fits)

pub push-requires : goal.push-requires
unfolding line
push-requires c =
    fits_then newline c.requires.fits (located_put c.args.input.now c.args.l c.put_entry.ensures)

pub returns : goal.returns
unfolding line
returns c =
    put_then (located_put c.args.input.now c.args.l c.put_entry.ensures)
    c.push.ensures

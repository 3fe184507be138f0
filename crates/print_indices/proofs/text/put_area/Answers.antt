-- `text::put_area` meets its contract.
use mathlib.Core.List.{◌++◌}
use Rattle.indices.specs.Cursor.{remaining, start_of}
use Rattle.printing.specs.Put.{Fits}
use Rattle.printing.specs.Text.{end-, ended}
use Rattle.printing.proofs.Puts.{fits-first, fits_then, put_then}
use Rattle.print_indices.specs.Text.{lines}
use Rattle.print_indices.proofs.Sizes.{area_text}
use Rattle.print_indices.proofs.text.put_area.Goals as goal

pub put_lines-requires : goal.put_lines-requires
put_lines-requires c =
    let whole : let input = c.args.input.now in Fits c.args.out.now (lines (remaining input (start_of input)) ++ ended end- c.args.count) =
    let input = c.args.input.now in
    rw (area_text input _ c.requires.counted) at c.requires.fits in
    fits-first _ (lines _) _ (whole)

pub push_ended-requires : goal.push_ended-requires
push_ended-requires c =
    let whole : let input = c.args.input.now in Fits c.args.out.now (lines (remaining input (start_of input)) ++ ended end- c.args.count) =
    let input = c.args.input.now in
    rw (area_text input _ c.requires.counted) at c.requires.fits in
    fits_then (ended end- _) (whole) c.put_lines.ensures

pub returns : goal.returns
returns c =
    rw (area_text _ _ c.requires.counted) (put_then c.put_lines.ensures c.push_ended.ensures)

-- `putting::put_row` meets its contract.
use mathlib.Core.List.{[]}
use Rattle.printing.proofs.Puts.{fits-first, fits_then, put_then}
use Rattle.printing.specs.Text.{ended}
use Rattle.month_table.specs.Table.{label}
use Rattle.month_table.proofs.Sizes.{row_parts}
use Rattle.month_table.proofs.putting.put_row.Goals as goal

pub put_label-requires : goal.put_label-requires
put_label-requires c =
    record { p_bound = c.requires.p_bound; fits = fits-first _ (label _) (ended [] _) (rw (row_parts _ _) at c.requires.fits) }

pub push_ended-requires : goal.push_ended-requires
push_ended-requires c =
    fits_then (ended [] _) (rw (row_parts _ _) at c.requires.fits) c.put_label.ensures

pub returns : goal.returns
returns c =
    rw (row_parts _ _) (put_then c.put_label.ensures c.push_ended.ensures)

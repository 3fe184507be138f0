-- `text::put_unit` meets its contract.
use mathlib.Core.List.{◌++◌}
use Rattle.printing.specs.Put.{Fits}
use Rattle.printing.specs.Text.{hex_digits, newline}
use Rattle.printing.proofs.Puts.{fits-first, fits_then, put_none, put_then}
use Rattle.print_nodes.specs.Text.{unit-}
use Rattle.print_nodes.proofs.Sizes.{unit_none, unit_some}
use Rattle.print_nodes.proofs.text.put_unit.Goals as goal

pub returns-then-scope-ne3 : goal.returns-then-scope-ne3
returns-then-scope-ne3 c =
    rw (unit_none _ c.args.input.now c.if-scope-ne3.true) (put_none _)

pub push-requires : goal.push-requires
push-requires c =
    let whole : Fits c.args.out.now ((unit- ++ hex_digits 16 c.read_be64-unit.result) ++ newline) =
    rw c.read_be64-unit.ensures (rw (unit_some _ c.args.input.now c.if-scope-ne3.false) at c.requires.fits) in
    fits-first _ unit- (hex_digits 16 c.read_be64-unit.result) (fits-first _ (unit- ++ hex_digits 16 c.read_be64-unit.result) newline (whole))

pub push_hex-requires-clause-fits : goal.push_hex-requires-clause-fits
push_hex-requires-clause-fits c =
    let whole : Fits c.args.out.now ((unit- ++ hex_digits 16 c.read_be64-unit.result) ++ newline) =
    rw c.read_be64-unit.ensures (rw (unit_some _ c.args.input.now c.if-scope-ne3.false) at c.requires.fits) in
    let digits = hex_digits 16 c.read_be64-unit.result in
    fits_then digits (fits-first _ (unit- ++ digits) newline (whole)) c.push.ensures

pub push-requires-2 : goal.push-requires-2
push-requires-2 c =
    let whole : Fits c.args.out.now ((unit- ++ hex_digits 16 c.read_be64-unit.result) ++ newline) =
    rw c.read_be64-unit.ensures (rw (unit_some _ c.args.input.now c.if-scope-ne3.false) at c.requires.fits) in
    fits_then newline (whole) (put_then c.push.ensures c.push_hex.ensures)

pub returns : goal.returns
returns c =
    rw (unit_some _ c.args.input.now c.if-scope-ne3.false, ← c.read_be64-unit.ensures)
    (put_then (put_then c.push.ensures c.push_hex.ensures) c.push-2.ensures)

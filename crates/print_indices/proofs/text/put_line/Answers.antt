-- `text::put_line` meets its contract.
use mathlib.Core.List.{List, ◌++◌}
use Prim.Native.Nat.{ℕ}
use Rattle.indices.specs.declared.reading.Set.{Set}
use Rattle.indices.specs.Cursor.{entry_in}
use Rattle.printing.specs.Put.{Fits}
use Rattle.printing.specs.Text.{newline, space, operand, named}
use Rattle.printing.proofs.Puts.{fits-first, fits_then, put_then}
use Rattle.print_indices.specs.Text.{index-, line}
use Rattle.print_indices.proofs.Lines.{code_fits, code_put}
use Rattle.print_indices.proofs.text.put_line.Goals as goal

-- the line without its end
abbrev front : List ℕ → Set → List ℕ
front input s = operand index- s.index ++ named space (entry_in input s).code

pub push_operand-requires : goal.push_operand-requires
unfolding line
push_operand-requires c =
    let whole : Fits c.args.out.now (front c.args.input.now c.args.s ++ newline) =
    c.requires.fits in
    let fits : Fits c.args.out.now (front c.args.input.now c.args.s) =
    fits-first _ (front c.args.input.now c.args.s) newline (whole) in
    fits-first _ (operand index- _) (named space _) (fits)

pub push_named-requires : goal.push_named-requires
unfolding line
push_named-requires c =
    let whole : Fits c.args.out.now (front c.args.input.now c.args.s ++ newline) =
    c.requires.fits in
    let fits : Fits c.args.out.now (front c.args.input.now c.args.s) =
    fits-first _ (front c.args.input.now c.args.s) newline (whole) in
    code_fits c.args.input.now c.args.s _ (fits_then (named space _) (fits) c.push_operand.ensures)

pub push-requires : goal.push-requires
unfolding line
push-requires c =
    let whole : Fits c.args.out.now (front c.args.input.now c.args.s ++ newline) =
    c.requires.fits in
    let code = code_put c.args.input.now c.args.s c.push_named.ensures in
    fits_then newline (whole) (put_then c.push_operand.ensures code)

pub returns : goal.returns
unfolding line
returns c =
    let code = code_put c.args.input.now c.args.s c.push_named.ensures in
    put_then (put_then c.push_operand.ensures code) c.push.ensures

-- `text::put_value` meets its contract.
use mathlib.Core.Path.{sym, ◌∙◌}
use borrow.Author.Tests.{eqb-true, eqb-false}
use Rattle.printing.specs.Text.{space, numbered, each, hex_byte}
use Rattle.printing.proofs.Puts.{fits-first, fits_then, put_then}
use Rattle.print_properties.specs.Text.{bytes_text}
use Rattle.print_properties.proofs.Entries.{value_none, value_some}
use Rattle.print_properties.proofs.text.put_value.Goals as goal

pub push_number-requires : goal.push_number-requires
push_number-requires c =
    fits-first _ (numbered space _) (bytes_text c.args.value.now) c.requires

pub returns-then-is_empty : goal.returns-then-is_empty
returns-then-is_empty c =
    rw (value_none c.args.value.now (eqb-true _ _ (sym c.is_empty.ensures ∙ c.if-is_empty.true)))
    c.push_number.ensures

pub push-requires : goal.push-requires
push-requires c =
    let some = value_some c.args.value.now (eqb-false _ _ (sym c.is_empty.ensures ∙ c.if-is_empty.false)) in
    fits-first _ space (each hex_byte _) (fits_then _ (rw some at c.requires) c.push_number.ensures)

pub push_value-requires : goal.push_value-requires
push_value-requires c =
    let some = value_some c.args.value.now (eqb-false _ _ (sym c.is_empty.ensures ∙ c.if-is_empty.false)) in
    fits_then (each hex_byte _) (fits_then _ (rw some at c.requires) c.push_number.ensures)
    c.push.ensures

pub returns : goal.returns
returns c =
    let some = value_some c.args.value.now (eqb-false _ _ (sym c.is_empty.ensures ∙ c.if-is_empty.false)) in
    let bytes = put_then c.push.ensures c.push_value.ensures in
    rw some (put_then c.push_number.ensures bytes)

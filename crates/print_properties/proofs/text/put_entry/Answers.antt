-- `text::put_entry` meets its contract.
use native.Mathlib.Omega.{arith}
use Rattle.printing.proofs.Puts.{fits-first, fits_then, put_then}
use Rattle.printing.specs.Text.{named}
use Rattle.print_properties.specs.Text.{part-, property-, value_text}
use Rattle.print_properties.proofs.Entries.{entry_deleted, entry_part, entry_whole}
use Rattle.print_properties.proofs.text.put_entry.Goals as goal

pub push_named-requires : goal.push_named-requires
push_named-requires c =
    rw (entry_deleted _ c.args.name.now c.args.value.now c.if-descriptor-eq-DELETION.true) at c.requires

pub returns-then-descriptor-eq-DELETION : goal.returns-then-descriptor-eq-DELETION
returns-then-descriptor-eq-DELETION c =
    rw (entry_deleted _ c.args.name.now c.args.value.now c.if-descriptor-eq-DELETION.true) c.push_named.ensures

pub push_named-requires-then-is_part : goal.push_named-requires-then-is_part
push_named-requires-then-is_part c =
    let value = c.args.value.now in
    let part = entry_part _ c.args.name.now value c.if-descriptor-eq-DELETION.false (omega arith) in
    fits-first _ (named part- _) (value_text value) (rw part at c.requires)

pub put_value-requires : goal.put_value-requires
put_value-requires c =
    let value = c.args.value.now in
    let part = entry_part _ c.args.name.now value c.if-descriptor-eq-DELETION.false (omega arith) in
    fits_then (value_text value) (rw part at c.requires) c.push_named-then-is_part.ensures

pub returns-then-is_part : goal.returns-then-is_part
returns-then-is_part c =
    let part = entry_part _ c.args.name.now c.args.value.now c.if-descriptor-eq-DELETION.false (omega arith) in
    rw part (put_then c.push_named-then-is_part.ensures c.put_value.ensures)

pub push_named-requires-2 : goal.push_named-requires-2
push_named-requires-2 c =
    let value = c.args.value.now in
    let whole = entry_whole _ c.args.name.now value c.if-descriptor-eq-DELETION.false (omega arith) in
    fits-first _ (named property- _) (value_text value) (rw whole at c.requires)

pub put_value-requires-2 : goal.put_value-requires-2
put_value-requires-2 c =
    let value = c.args.value.now in
    let whole = entry_whole _ c.args.name.now value c.if-descriptor-eq-DELETION.false (omega arith) in
    fits_then (value_text value) (rw whole at c.requires) c.push_named-2.ensures

pub returns : goal.returns
returns c =
    let whole = entry_whole _ c.args.name.now c.args.value.now c.if-descriptor-eq-DELETION.false (omega arith) in
    rw whole (put_then c.push_named-2.ensures c.put_value-2.ensures)

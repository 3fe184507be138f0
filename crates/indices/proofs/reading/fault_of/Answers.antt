-- `reading::fault_of` meets its contract.
use mathlib.Core.Path.{◌≡◌, sym, ap, ◌∙◌}
use mathlib.Core.Bool.{true, false}
use Prim.Native.Nat.{◌+◌, ◌-◌}
use lib.Dec.{ltb}
use lib.ListN.{length}
use borrow.Author.Tests.{lt-ltb, le-ltb}
use Rattle.indices.proofs.IndexLaws.{field_part}
use Rattle.indices.specs.Reading.{length_at, field_at, good_length, good_field, fault_at}
use Rattle.indices.proofs.reading.fault_of.Goals as goal

pub returns-then-not-is_length : goal.returns-then-not-is_length
unfolding fault_at
returns-then-not-is_length c =
    let length_told : c.is_length.result ≡ good_length (length_at c.args.area.now c.args.at) =
    c.is_length.ensures ∙ ap good_length c.requires.1 in
    rw (le-ltb _ 8 c.requires.0, ← length_told, c.if-not-is_length.true-raw)

pub returns-then-area-at : goal.returns-then-area-at
unfolding fault_at
returns-then-area-at c =
    let length_told : c.is_length.result ≡ good_length (length_at c.args.area.now c.args.at) =
    c.is_length.ensures ∙ ap good_length c.requires.1 in
    let known : (ltb (length c.args.area.now - c.args.at) 8 ≡ false) × (good_length (length_at c.args.area.now c.args.at) ≡ true) =
    (le-ltb _ 8 c.requires.0, sym (length_told) ∙ c.if-not-is_length.false) in
    rw (known.0, known.1, ← c.requires.1, lt-ltb _ _ c.if-area-at.true)

pub returns-then-not-is_field : goal.returns-then-not-is_field
unfolding fault_at
returns-then-not-is_field c =
    let length_told : c.is_length.result ≡ good_length (length_at c.args.area.now c.args.at) =
    c.is_length.ensures ∙ ap good_length c.requires.1 in
    let known : (ltb (length c.args.area.now - c.args.at) 8 ≡ false) × (good_length (length_at c.args.area.now c.args.at) ≡ true) =
    (le-ltb _ 8 c.requires.0, sym (length_told) ∙ c.if-not-is_length.false) in
    let inside : ltb (length c.args.area.now - c.args.at) (8 + length_at c.args.area.now c.args.at) ≡ false =
    rw (← c.requires.1) (le-ltb _ _ c.if-area-at.false) in
    let field_told : c.is_field.result ≡ good_field (field_at c.args.area.now c.args.at) =
    c.is_field.ensures ∙ ap good_field (field_part c.args.area.now c.args.at c.args.n c.requires.1) in
    rw (known.0, known.1, inside, ← field_told, c.if-not-is_field.true-raw)

pub returns : goal.returns
unfolding fault_at
returns c =
    let length_told : c.is_length.result ≡ good_length (length_at c.args.area.now c.args.at) =
    c.is_length.ensures ∙ ap good_length c.requires.1 in
    let known : (ltb (length c.args.area.now - c.args.at) 8 ≡ false) × (good_length (length_at c.args.area.now c.args.at) ≡ true) =
    (le-ltb _ 8 c.requires.0, sym (length_told) ∙ c.if-not-is_length.false) in
    let inside : ltb (length c.args.area.now - c.args.at) (8 + length_at c.args.area.now c.args.at) ≡ false =
    rw (← c.requires.1) (le-ltb _ _ c.if-area-at.false) in
    let field_told : c.is_field.result ≡ good_field (field_at c.args.area.now c.args.at) =
    c.is_field.ensures ∙ ap good_field (field_part c.args.area.now c.args.at c.args.n c.requires.1) in
    rw (known.0, known.1, inside, ← field_told, c.if-not-is_field.false-raw)

-- `Text::push_name_byte` meets its contract.
use mathlib.Core.Path.{◌≡◌, sym, ◌∙◌}
use mathlib.Core.Bool.{true, false}
use mathlib.Core.List.{[], ◌∷◌}
use Rattle.printing.proofs.Puts.{fits-first, fits_then, put_then}
use Rattle.printing.specs.Text.{hex_byte, is_plain}
use Rattle.printing.proofs.Bytes.{plain_text, escaped_text}
use Rattle.printing.proofs.put.Text.push_name_byte.Goals as goal

pub push-requires : goal.push-requires
push-requires c =
    let plain : is_plain c.args.b ≡ true =
    sym c.is_plain.ensures ∙ c.if-is_plain.true in
    rw (plain_text _ (plain)) at c.requires

pub returns-then-is_plain : goal.returns-then-is_plain
returns-then-is_plain c =
    let plain : is_plain c.args.b ≡ true =
    sym c.is_plain.ensures ∙ c.if-is_plain.true in
    rw (plain_text _ (plain)) c.push.ensures

pub push-requires-2 : goal.push-requires-2
push-requires-2 c =
    let other : is_plain c.args.b ≡ false =
    sym c.is_plain.ensures ∙ c.if-is_plain.false in
    fits-first _ (92 ∷ 120 ∷ []) (hex_byte _) (rw (escaped_text _ (other)) at c.requires)

pub push_hex_byte-requires : goal.push_hex_byte-requires
push_hex_byte-requires c =
    let other : is_plain c.args.b ≡ false =
    sym c.is_plain.ensures ∙ c.if-is_plain.false in
    fits_then (hex_byte _) (rw (escaped_text _ (other)) at c.requires) c.push-2.ensures

pub returns : goal.returns
returns c =
    let other : is_plain c.args.b ≡ false =
    sym c.is_plain.ensures ∙ c.if-is_plain.false in
    rw (escaped_text _ (other)) (put_then c.push-2.ensures c.push_hex_byte.ensures)

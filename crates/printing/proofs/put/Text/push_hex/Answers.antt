-- `Text::push_hex` meets its contract.
use mathlib.Core.Path.{◌≡◌, ◌∙◌}
use lib.ListN.{take}
use Rattle.printing.specs.Text.{hex_digits}
use Rattle.printing.proofs.Digits.{hex_digits_lem}
use Rattle.printing.proofs.put.Text.push_hex.Goals as goal

pub push-requires : goal.push-requires
push-requires c =
    let made : take c.hex-n.result c.hex-n.new.out ≡ hex_digits c.args.width c.args.v =
    let sized = c.requires.le_width in
    c.hex-n.ensures.digits ∙ hex_digits_lem _ _ _ sized.0 sized.1 sized.2 c.hex-n.ensures.len in
    rw (made) c.requires.fits

pub returns : goal.returns
returns c =
    let made : take c.hex-n.result c.hex-n.new.out ≡ hex_digits c.args.width c.args.v =
    let sized = c.requires.le_width in
    c.hex-n.ensures.digits ∙ hex_digits_lem _ _ _ sized.0 sized.1 sized.2 c.hex-n.ensures.len in
    rw (made) at c.push.ensures

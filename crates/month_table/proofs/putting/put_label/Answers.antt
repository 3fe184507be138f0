-- `putting::put_label` meets its contract.
use mathlib.Core.List.{[], ◌∷◌}
use Prim.Native.Nat.{◌+◌, ◌/◌, ◌%◌}
use Rattle.printing.proofs.Puts.{fits-first, fits_then, put_then}
use Rattle.month_table.specs.Inner.Terms.{word}
use Rattle.month_table.proofs.Words.{label_token, label_last}
use Rattle.month_table.proofs.putting.put_label.Goals as goal

pub push-requires : goal.push-requires
push-requires c =
    rw (c.word.ensures, ← label_last c.args.p c.if-p-ge32.true) c.requires.fits

pub returns-then-p-ge32 : goal.returns-then-p-ge32
returns-then-p-ge32 c =
    rw (label_last c.args.p c.if-p-ge32.true, ← c.word.ensures) c.push.ensures

pub push-requires-2 : goal.push-requires-2
push-requires-2 c =
    let p = c.args.p in
    fits-first _ ((49 + p / 8) ∷ 44 ∷ []) (word (p % 8)) (rw (label_token _ c.if-p-ge32.false) at c.requires.fits)

pub push-requires-3 : goal.push-requires-3
push-requires-3 c =
    let p = c.args.p in
    rw c.word-2.ensures (fits_then (word (p % 8)) (rw (label_token _ c.if-p-ge32.false) at c.requires.fits) c.push-2.ensures)

pub returns : goal.returns
returns c =
    rw (label_token _ c.if-p-ge32.false) (put_then c.push-2.ensures (rw c.word-2.ensures at c.push-3.ensures))

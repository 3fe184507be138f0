use Rattle.std.proofs.Common.{inl, inr}
use Rattle.words.proofs.Ends.{none_ended, some_ended}
use Rattle.words.proofs.nul.ended_length.Goals.{then-before-eq0-via-then-before-eq0, then-before-eq0-via-else-before-eq0+then-before-end}
use Rattle.words.proofs.nul.ended_length.Goals as goal

pub returns-then-before-eq0 : goal.returns-then-before-eq0
returns-then-before-eq0 c =
    none_ended c.args.bytes.now c.args.limit _ _ c.min-end.ensures c.until_nul-before.ensures
    (elim c.then-before-eq0.branch [ then-before-eq0-via-then-before-eq0 w ↦ inl w.if-before-eq0.true | then-before-eq0-via-else-before-eq0+then-before-end w ↦ inr w.if-before-end.true ])

pub returns : goal.returns
returns c =
    some_ended c.args.bytes.now c.args.limit _ _ c.min-end.ensures c.until_nul-before.ensures c.if-before-eq0.false c.if-before-end.false

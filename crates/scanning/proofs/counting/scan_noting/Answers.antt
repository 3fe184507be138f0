use Rattle.std.proofs.Common.{Some, ap, ◌∙◌, arith, refl}
use Rattle.journal.proofs.Claims.{too_large, journal_claims}
use Rattle.scanning.proofs.NoteLaws.{marked_none, marked_note}
use Rattle.scanning.proofs.Reaching.{reached_none, reached_end, malformed}
use Rattle.journal.specs.Marks.{Marked}
use Rattle.scanning.proofs.counting.scan_noting.Goals as goal

pub returns-then-j-gt-SIZE_LIMIT : goal.returns-then-j-gt-SIZE_LIMIT
returns-then-j-gt-SIZE_LIMIT c =
    record { judgement_value = (malformed _ _ (too_large c.args.j.now c.if-j-gt-SIZE_LIMIT.true), marked_none _ _ _ refl); rules = journal_claims }

pub loop-at-init : goal.loop-at-init
loop-at-init c =
    (reached_none _ _, marked_none _ _ _ refl)

pub note-requires : goal.note-requires
note-requires c =
    c.loop-at.invariant.1.few

pub stride-requires : goal.stride-requires
stride-requires c =
    (c.loop-at.invariant.0, c.fill_weights.ensures, c.loop-at-test.true, c.if-j-gt-SIZE_LIMIT.false)

pub returns-in_err-p : goal.returns-in_err-p
returns-in_err-p c =
    let marks_then : Marked c.args.selection.now c.args.j.now c.note.new.marks =
    marked_note c.args.selection.now c.args.j.now _ _ _ c.loop-at.invariant.0 c.loop-at.invariant.1 c.note.ensures in
    record { judgement_value = (let none = malformed c.args.selection.now c.args.j.now c.in_err-p.ensures in cc, marks_then); rules = journal_claims }

pub loop-at-smaller : goal.loop-at-smaller
loop-at-smaller c =
    omega (arith, c.in_ok-p.ensures.1)

pub loop-at-preserved : goal.loop-at-preserved
loop-at-preserved c =
    let marks_then : Marked c.args.selection.now c.args.j.now c.note.new.marks =
    marked_note c.args.selection.now c.args.j.now _ _ _ c.loop-at.invariant.0 c.loop-at.invariant.1 c.note.ensures in
    (c.in_ok-p.ensures.0, marks_then)

pub returns : goal.returns
returns c =
    record { judgement_value = (ap Some c.counts_of.ensures ∙ reached_end c.args.selection.now c.args.j.now c.loop-at.at _ c.if-j-gt-SIZE_LIMIT.false c.loop-at.invariant.0 c.loop-at-test.false, c.loop-at.invariant.1); rules = journal_claims }

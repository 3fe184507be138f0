-- `getting::answer_counted` meets its contract.
use Rattle.std.proofs.Common.{sym, ◌∙◌, arith}
use Rattle.index_calls.proofs.Lists.{asked_is, among_is, due_is, left_misnumbered, ran_is, ran_few, left_unfit, left_again, left_done}
use Rattle.index_calls.proofs.getting.answer_counted.Goals as goal

pub returns-then-not-is_among : goal.returns-then-not-is_among
returns-then-not-is_among c =
    let both = left_misnumbered c.args.inventory.now c.args.request c.args.area.now c.refused.result c.requires.2 (rw c.requires.3 at (sym c.is_among.ensures ∙ c.if-not-is_among.true)) c.refused.ensures in
    record { status_value = both.0; area_after = both.1 }

pub entries_from-left-requires : goal.entries_from-left-requires
entries_from-left-requires c =
    among_is _ _ (sym c.is_among.ensures ∙ c.if-not-is_among.false)

pub write_run-handed-requires : goal.write_run-handed-requires
write_run-handed-requires c =
    let range = among_is _ _ (sym c.is_among.ensures ∙ c.if-not-is_among.false) in
    (c.requires.0, rw c.entries_from-left.ensures (due_is (asked_is {q = c.args.request} c.wanted_by-wanted.ensures) c.requires.2 c.requires.3 (c.requires.4 range.0 range.1)))

pub returns-then-handed-eq0 : goal.returns-then-handed-eq0
returns-then-handed-eq0 c =
    let ran = ran_is {i = c.args.inventory.now} {q = c.args.request} (asked_is c.wanted_by-wanted.ensures) c.requires.2 c.requires.3 (sym c.is_among.ensures ∙ c.if-not-is_among.false) c.requires.1
    c.write_run-handed.ensures.value c.write_run-handed.ensures.area_after in
    let both = left_unfit ran c.refused-then-handed-eq0.result c.if-handed-eq0.true c.refused-then-handed-eq0.ensures in
    record { status_value = both.0; area_after = both.1 }

pub after-requires : goal.after-requires
after-requires c =
    let ran = ran_is {i = c.args.inventory.now} {q = c.args.request} (asked_is c.wanted_by-wanted.ensures) c.requires.2 c.requires.3 (sym c.is_among.ensures ∙ c.if-not-is_among.false) c.requires.1
    c.write_run-handed.ensures.value c.write_run-handed.ensures.area_after in
    omega (arith, ran_few ran)

pub returns-then-handed-left : goal.returns-then-handed-left
returns-then-handed-left c =
    let ran = ran_is {i = c.args.inventory.now} {q = c.args.request} (asked_is c.wanted_by-wanted.ensures) c.requires.2 c.requires.3 (sym c.is_among.ensures ∙ c.if-not-is_among.false) c.requires.1
    c.write_run-handed.ensures.value c.write_run-handed.ensures.area_after in
    let both = left_again ran (omega arith) (omega arith) in
    rw c.after.ensures (record { status_value = both.0; area_after = both.1 })

pub returns : goal.returns
returns c =
    let ran = ran_is {i = c.args.inventory.now} {q = c.args.request} (asked_is c.wanted_by-wanted.ensures) c.requires.2 c.requires.3 (sym c.is_among.ensures ∙ c.if-not-is_among.false) c.requires.1
    c.write_run-handed.ensures.value c.write_run-handed.ensures.area_after in
    let both = left_done ran (omega arith) (omega arith) in
    rw c.first.ensures (record { status_value = both.0; area_after = both.1 })

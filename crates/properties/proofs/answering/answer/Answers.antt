-- `answering::answer` meets its contract.
use mathlib.Core.Path.{sym, ap, ◌∙◌}
use Rattle.std.specs.Prelude.{Err}
use Rattle.std.proofs.lemmas.Result.{err_from_is_err_and}
use Rattle.journal.proofs.Walks.{within_limit}
use Rattle.properties.specs.Claims.Changes.{ChangesExactly, FillExactly, SessionExactly}
use Rattle.properties.proofs.ChangeClaims.{changes_exactly, fill_exactly, session_exactly}
use Rattle.properties.proofs.Answers.{answer_refused, answer_reserved, answer_given}
use Rattle.properties.proofs.answering.answer.Goals as goal

-- what a call comes to and leaves, and the claims beside it
claimed : {P Q : Type 0} → P × Q → P × (Q × (ChangesExactly × FillExactly × SessionExactly))
claimed p = (p.0, (p.1, (changes_exactly, fill_exactly, session_exactly)))

pub returns-in_err-place : goal.returns-in_err-place
returns-in_err-place c =
    let both = claimed (answer_refused c.args.area.now c.args.j.now _ _ c.read_phandle-phandle.ensures c.read_state-state.ensures _ c.in_err-place.ensures) in
    let told = err_from_is_err_and c.from_residual.result c.from_residual.ensures.1 in
    record { value = told.1 ∙ ap Err told.2 ∙ both.0; area_after = both.1.0; claims = both.1.1 }

pub returns-then-not-is_reserved : goal.returns-then-not-is_reserved
returns-then-not-is_reserved c =
    let free = sym c.is_reserved.ensures ∙ c.if-not-is_reserved.true in
    let both = claimed (answer_reserved c.args.area.now c.args.j.now c.in_ok-place.ensures.0 free) in
    record { value = both.0; area_after = both.1.0; claims = both.1.1 }

pub write_answer-requires : goal.write_answer-requires
write_answer-requires c =
    let r = c.in_ok-place.ensures in
    (c.requires, r.2, within_limit c.args.j.now r.0)

pub returns : goal.returns
returns c =
    let r = c.in_ok-place.ensures in
    let free = sym c.is_reserved.ensures ∙ c.if-not-is_reserved.false in
    let both = claimed (answer_given c.args.area.now c.args.j.now r.0 c.read_phandle-phandle.result c.read_state-state.result c.read_phandle-phandle.ensures c.read_state-state.ensures free r.1
    c.write_answer.result c.write_answer.new.area c.write_answer.ensures.value c.write_answer.ensures.area_after) in
    record { value = both.0; area_after = both.1.0; claims = both.1.1 }

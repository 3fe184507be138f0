-- `nodes_call::answer_counted` meets its contract.
use mathlib.Core.Bool.{Bool, true, false, cond}
use mathlib.Core.Path.{◌≡◌, sym, ap, ◌∙◌, refl}
use Prim.Native.Nat.{◌≤◌}
use native.Mathlib.Omega.{arith}
use Rattle.journal.specs.Reportable.{reportable}
use Rattle.nodes.proofs.Answers.{counts_small}
use Rattle.nodes.proofs.Listed.{total-is}
use Rattle.nodes.specs.Area.{written}
use Rattle.node_area.specs.Head.{is_reserved}
use Rattle.node_area.specs.State.{total}
use Rattle.calls.proofs.Areas.{left_answered, Left, state-is, state_within}
use Rattle.calls.specs.declared.status.Status.TheVariants.{Done, Again}
use Rattle.calls.specs.UpdateNodes.{good_state, area_status, area_after}
use Rattle.node_calls.proofs.nodes_call.answer_counted.Goals as goal

pub returns-then-not-is_reserved : goal.returns-then-not-is_reserved
unfolding area_status area_after
returns-then-not-is_reserved c =
    rw (c.requires.1.good, ← c.is_reserved.ensures, c.if-not-is_reserved.true) record { value = refl; area_after = refl }

pub is_within-requires : goal.is_within-requires
is_within-requires c =
    omega (arith, counts_small c.args.selection.now c.args.j.now c.args.counts c.requires.1.good c.requires.1.counted)

pub returns-then-not-is_within : goal.returns-then-not-is_within
unfolding area_status area_after
returns-then-not-is_within c =
    let reserved_yes : is_reserved c.args.scope c.args.area.now ≡ true =
    sym c.is_reserved.ensures ∙ c.if-not-is_reserved.false in
    let good_is : c.is_within.result ≡ good_state c.args.selection.now c.args.j.now c.args.area.now =
    c.is_within.ensures ∙ state-is c.args.selection.now c.args.j.now c.args.area.now _ _ c.read-state.ensures c.requires.1.counted in
    let formed = c.requires.1.good in
    rw (formed, reserved_yes, ← good_is, c.if-not-is_within.true) record { value = refl; area_after = refl }

pub write_answer-requires : goal.write_answer-requires
write_answer-requires c =
    let good_is : c.is_within.result ≡ good_state c.args.selection.now c.args.j.now c.args.area.now =
    c.is_within.ensures ∙ state-is c.args.selection.now c.args.j.now c.args.area.now _ _ c.read-state.ensures c.requires.1.counted in
    let good_yes : good_state c.args.selection.now c.args.j.now c.args.area.now ≡ true =
    sym (good_is) ∙ c.if-not-is_within.false in
    let within : c.read-state.result.0 ≤ total c.args.counts =
    rw (c.read-state.ensures, c.requires.1.counted) (rw (← total-is c.args.selection.now c.args.j.now) at (state_within c.args.selection.now c.args.j.now c.args.area.now (good_yes))) in
    (c.requires.0, c.requires.1, within)

pub returns-then-write_answer : goal.returns-then-write_answer
returns-then-write_answer c =
    let reserved_yes : is_reserved c.args.scope c.args.area.now ≡ true =
    sym c.is_reserved.ensures ∙ c.if-not-is_reserved.false in
    let good_is : c.is_within.result ≡ good_state c.args.selection.now c.args.j.now c.args.area.now =
    c.is_within.ensures ∙ state-is c.args.selection.now c.args.j.now c.args.area.now _ _ c.read-state.ensures c.requires.1.counted in
    let good_yes : good_state c.args.selection.now c.args.j.now c.args.area.now ≡ true =
    sym (good_is) ∙ c.if-not-is_within.false in
    let answered : (more : Bool) → c.write_answer.result ≡ more → Left c.args.scope c.args.selection.now c.args.j.now c.args.area.now (cond more Again Done) c.write_answer.new.area =
    λ more told. let sel = c.args.selection.now in
    let done_value = c.write_answer.ensures.value in
    let done_area = c.write_answer.ensures.area_after in
    let more-is = rw c.read-state.ensures at (sym done_value ∙ told) in
    let l = left_answered c.args.scope sel c.args.j.now c.args.area.now c.requires.1.good (reserved_yes) (good_yes) more more-is in
    (l.0, done_area ∙ ap (written sel.units c.args.area.now (reportable sel c.args.j.now)) c.read-state.ensures ∙ l.1) in
    let both = answered true c.if-write_answer.true in
    record { value = both.0; area_after = both.1 }

pub returns-else-write_answer : goal.returns-else-write_answer
returns-else-write_answer c =
    let reserved_yes : is_reserved c.args.scope c.args.area.now ≡ true =
    sym c.is_reserved.ensures ∙ c.if-not-is_reserved.false in
    let good_is : c.is_within.result ≡ good_state c.args.selection.now c.args.j.now c.args.area.now =
    c.is_within.ensures ∙ state-is c.args.selection.now c.args.j.now c.args.area.now _ _ c.read-state.ensures c.requires.1.counted in
    let good_yes : good_state c.args.selection.now c.args.j.now c.args.area.now ≡ true =
    sym (good_is) ∙ c.if-not-is_within.false in
    let answered : (more : Bool) → c.write_answer.result ≡ more → Left c.args.scope c.args.selection.now c.args.j.now c.args.area.now (cond more Again Done) c.write_answer.new.area =
    λ more told. let sel = c.args.selection.now in
    let done_value = c.write_answer.ensures.value in
    let done_area = c.write_answer.ensures.area_after in
    let more-is = rw c.read-state.ensures at (sym done_value ∙ told) in
    let l = left_answered c.args.scope sel c.args.j.now c.args.area.now c.requires.1.good (reserved_yes) (good_yes) more more-is in
    (l.0, done_area ∙ ap (written sel.units c.args.area.now (reportable sel c.args.j.now)) c.read-state.ensures ∙ l.1) in
    let both = answered false c.if-write_answer.false in
    record { value = both.0; area_after = both.1 }

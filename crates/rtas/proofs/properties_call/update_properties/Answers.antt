-- `properties_call::update_properties` meets its contract.
use mathlib.Core.Bool.{true, false, not}
use mathlib.Core.List.{List}
use mathlib.Core.Path.{◌≡◌, sym, ap, ◌∙◌, refl}
use Prim.Native.Nat.{ℕ}
use lib.ListN.{length}
use borrow.Author.Rules.{rules}
use Rattle.journal.specs.Scope.{valid}
use Rattle.journal.proofs.Rows.{row_valid}
use Rattle.calls.proofs.Areas.{placed_inside}
use Rattle.calls.proofs.Memory.{part_lent, part_length}
use Rattle.calls.specs.UpdateNodes.{placed}
use Rattle.calls.specs.UpdateProperties.{status_for, properties_status, properties_memory}
use Rattle.rtas.proofs.Works.{left_properties}
use Rattle.rtas.proofs.properties_call.update_properties.Goals as goal

pub returns-then-not-is_placed : goal.returns-then-not-is_placed
unfolding properties_status properties_memory
returns-then-not-is_placed c =
    rw (← c.is_placed.ensures, c.if-not-is_placed.true) (record { value = refl; memory_after = refl })

pub returns-then-is_none : goal.returns-then-is_none
unfolding properties_status properties_memory
returns-then-is_none c =
    let placed_yes : placed c.args.memory.now c.args.address ≡ true =
    sym c.is_placed.ensures ∙ c.if-not-is_placed.false in
    let invalid : valid c.args.scope ≡ false = sym (row_valid c.args.scope _ c.scope_row.ensures.value) ∙ c.is_none.ensures ∙ ap not c.if-is_none.true in
    rw (placed_yes, invalid) (record { value = refl; memory_after = refl })

pub slice_bounds-answer-end : goal.slice_bounds-answer-end
slice_bounds-answer-end c =
    let placed_yes : placed c.args.memory.now c.args.address ≡ true =
    sym c.is_placed.ensures ∙ c.if-not-is_placed.false in
    let h = placed_inside c.args.memory.now c.args.address (placed_yes) in search rules

pub returns : goal.returns
returns c =
    let placed_yes : placed c.args.memory.now c.args.address ≡ true =
    sym c.is_placed.ensures ∙ c.if-not-is_placed.false in
    let m = c.args.memory.now in
    let placed = placed_yes in
    let h = placed_inside m c.args.address placed in
    let size = ap (λ (l : List ℕ). length l) (part_lent m c.args.address 4096 h) ∙ part_length m c.args.address 4096 h in
    let scoped : valid c.args.scope ≡ true = sym (row_valid c.args.scope _ c.scope_row.ensures.value) ∙ c.is_none.ensures ∙ ap not c.if-is_none.false in
    let told_0 = c.answer-outcome.ensures.value in
    let told_1 = c.answer-outcome.ensures.area_after in
    let told_2 = c.answer-outcome.ensures.claims in
    let both = left_properties m c.args.address c.args.scope c.args.j.now placed scoped _ _ (c.answer-outcome.auto.area ∙ size) (c.status_for.ensures ∙ ap status_for told_0) told_1 in
    record { value = both.0; memory_after = both.1 }

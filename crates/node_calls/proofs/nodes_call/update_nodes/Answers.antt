-- `nodes_call::update_nodes` meets its contract.
use mathlib.Core.Bool.{true}
use mathlib.Core.List.{List}
use mathlib.Core.Path.{◌≡◌, sym, ap, ◌∙◌, refl}
use Prim.Native.Nat.{ℕ}
use lib.ListN.{length}
use borrow.Author.Rules.{rules}
use Rattle.journal.proofs.Rows.{row_none, row_some}
use Rattle.calls.proofs.Areas.{placed_inside, left_area}
use Rattle.calls.proofs.Memory.{part_lent, part_length}
use Rattle.calls.specs.UpdateNodes.{placed, nodes_status, nodes_memory}
use Rattle.node_calls.proofs.nodes_call.update_nodes.Goals as goal

pub returns-then-not-is_placed : goal.returns-then-not-is_placed
unfolding nodes_status nodes_memory
returns-then-not-is_placed c =
    rw (← c.is_placed.ensures, c.if-not-is_placed.true) record { value = refl; memory_after = refl }

pub returns-in_default : goal.returns-in_default
unfolding nodes_status nodes_memory
returns-in_default c =
    let placed_yes : placed c.args.memory.now c.args.address ≡ true =
    sym c.is_placed.ensures ∙ c.if-not-is_placed.false in
    rw (placed_yes, row_none c.args.scope c.in_default.ensures.value) record { value = refl; memory_after = refl }

pub slice_bounds-answer_area-end : goal.slice_bounds-answer_area-end
slice_bounds-answer_area-end c =
    let placed_yes : placed c.args.memory.now c.args.address ≡ true =
    sym c.is_placed.ensures ∙ c.if-not-is_placed.false in
    let h = placed_inside c.args.memory.now c.args.address (placed_yes) in search rules

pub returns : goal.returns
returns c =
    let placed_yes : placed c.args.memory.now c.args.address ≡ true =
    sym c.is_placed.ensures ∙ c.if-not-is_placed.false in
    let row = row_some c.args.scope _ c.in-Some.ensures.value in
    let both = left_area c.args.memory.now c.args.address c.args.scope c.args.j.now (placed_yes) row.0 _ _
    (c.answer_area.auto.area ∙ (let h = placed_inside c.args.memory.now c.args.address (placed_yes) in ap (λ (l : List ℕ). length l) (part_lent _ _ 4096 h) ∙ part_length _ _ 4096 h)) (rw row.1 at c.answer_area.ensures.value, rw row.1 at c.answer_area.ensures.area_after) in
    record { value = both.0; memory_after = both.1 }

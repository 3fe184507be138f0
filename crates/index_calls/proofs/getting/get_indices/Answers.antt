-- `getting::get_indices` meets its contract.
use mathlib.Core.Bool.{true}
use mathlib.Core.Path.{◌≡◌, refl, sym, ◌∙◌}
use borrow.Author.Rules.{rules}
use Rattle.calls.specs.declared.status.Status.TheVariants.{Parameter, Changed}
use Rattle.calls.specs.ReadingRecord.{is_named, is_current}
use Rattle.calls.specs.GetIndices.{askable, lendable, reading_status, indices_status}
use Rattle.calls.proofs.Requests.{lent_size}
use Rattle.index_calls.proofs.Lists.{lent_area, all_refused, left_list}
use Rattle.index_calls.proofs.getting.get_indices.Goals as goal

pub returns-then-not-is_askable : goal.returns-then-not-is_askable
unfolding indices_status
returns-then-not-is_askable c =
    let s = c.args in
    let both = all_refused s.memory.now s.inventory.now s.edition s.reading s.request Parameter c.refused.result
    (rw (← c.is_askable.ensures, c.if-not-is_askable.true)) refl c.refused.ensures in
    record { status_value = both.0; memory_after = both.1 }

pub returns-then-not-is_lendable : goal.returns-then-not-is_lendable
unfolding indices_status
returns-then-not-is_lendable c =
    let asked : let q = c.args.request in askable q.flag q.item_type ≡ true =
    sym c.is_askable.ensures ∙ c.if-not-is_askable.false in
    let s = c.args in
    let both = all_refused s.memory.now s.inventory.now s.edition s.reading s.request Parameter c.refused-then-not-is_lendable.result
    (rw (asked, ← c.is_lendable.ensures, c.if-not-is_lendable.true)) refl c.refused-then-not-is_lendable.ensures in
    record { status_value = both.0; memory_after = both.1 }

pub returns-then-not-named : goal.returns-then-not-named
unfolding indices_status reading_status
returns-then-not-named c =
    let asked : let q = c.args.request in askable q.flag q.item_type ≡ true =
    sym c.is_askable.ensures ∙ c.if-not-is_askable.false in
    let lent : let s = c.args in lendable s.memory.now s.request.address s.request.size ≡ true =
    sym c.is_lendable.ensures ∙ c.if-not-is_lendable.false in
    let s = c.args in
    let both = all_refused s.memory.now s.inventory.now s.edition s.reading s.request Parameter c.refused-then-not-named.result
    (rw (asked, lent, ← c.is_named-named.ensures, c.if-not-named.true)) refl c.refused-then-not-named.ensures in
    record { status_value = both.0; memory_after = both.1 }

pub returns-then-not-current : goal.returns-then-not-current
unfolding indices_status reading_status
returns-then-not-current c =
    let asked : let q = c.args.request in askable q.flag q.item_type ≡ true =
    sym c.is_askable.ensures ∙ c.if-not-is_askable.false in
    let lent : let s = c.args in lendable s.memory.now s.request.address s.request.size ≡ true =
    sym c.is_lendable.ensures ∙ c.if-not-is_lendable.false in
    let named : let s = c.args in is_named s.reading s.request ≡ true =
    sym c.is_named-named.ensures ∙ c.if-not-named.false in
    let s = c.args in
    let both = all_refused s.memory.now s.inventory.now s.edition s.reading s.request Changed c.refused-then-not-current.result
    (rw (asked, lent, named, ← c.is_current-current.ensures, c.if-not-current.true)) refl c.refused-then-not-current.ensures in
    record { status_value = both.0; memory_after = both.1 }

pub slice_bounds-answer_list-end : goal.slice_bounds-answer_list-end
slice_bounds-answer_list-end c =
    let lent : let s = c.args in lendable s.memory.now s.request.address s.request.size ≡ true =
    sym c.is_lendable.ensures ∙ c.if-not-is_lendable.false in
    let s = c.args in let inside = (lent_size s.memory.now s.request.address s.request.size (lent)).2 in search rules

pub answer_list-requires : goal.answer_list-requires
answer_list-requires c =
    let lent : let s = c.args in lendable s.memory.now s.request.address s.request.size ≡ true =
    sym c.is_lendable.ensures ∙ c.if-not-is_lendable.false in
    let s = c.args in lent_area s.memory.now s.request.address s.request.size (lent)

pub returns : goal.returns
returns c =
    let asked : let q = c.args.request in askable q.flag q.item_type ≡ true =
    sym c.is_askable.ensures ∙ c.if-not-is_askable.false in
    let lent : let s = c.args in lendable s.memory.now s.request.address s.request.size ≡ true =
    sym c.is_lendable.ensures ∙ c.if-not-is_lendable.false in
    let named : let s = c.args in is_named s.reading s.request ≡ true =
    sym c.is_named-named.ensures ∙ c.if-not-named.false in
    let current : let s = c.args in is_current s.reading s.edition s.request ≡ true =
    sym c.is_current-current.ensures ∙ c.if-not-current.false in
    let s = c.args in
    let both = left_list s.memory.now s.inventory.now s.edition s.reading s.request (asked) (lent) (named) (current) _ _ _ c.answer_list.auto.area (c.answer_list.ensures.status_value, c.answer_list.ensures.area_after) in
    record { status_value = both.0; memory_after = both.1 }

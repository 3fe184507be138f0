use Rattle.std.proofs.Common.{◌+◌, ◌*◌, ◌≤◌, length, sym, ◌∙◌, arith, rules}
use Rattle.records.specs.Records.{size_limit}
use Rattle.journal.specs.Scope.{Selection}
use Rattle.scanning.specs.Inner.Terms.{Reached, Known}
use Rattle.scanning.proofs.Reaching.{position, reached_four}
use Rattle.scanning.proofs.stride.past_same.Goals as goal

pub overflow_mul-four : goal.overflow_mul-four
overflow_mul-four c =
    omega (arith, c.requires.1.small)

pub loop-at-init : goal.loop-at-init
loop-at-init c =
    (λ sel s k t. t, omega arith, search rules)

pub overflow_add-at : goal.overflow_add-at
overflow_add-at c =
    let reached : Reached c.args.selection.now c.args.j.now (position c.loop-at.at c.loop-at.counts) =
    c.loop-at.invariant.0 _ c.requires.3 c.requires.1 c.requires.0 in
    omega (arith, reached.inside, c.loop-at.invariant.2, c.requires.1.small, c.requires.3)

pub four_headers-requires : goal.four_headers-requires
four_headers-requires c =
    (omega (arith, c.requires.1.large), c.requires.1.small)

pub overflow_mul-counts : goal.overflow_mul-counts
overflow_mul-counts c =
    omega (arith, c.requires.1.narrow)

pub overflow_add-counts : goal.overflow_add-counts
overflow_add-counts c =
    let turn : (sel : Selection) → length c.args.j.now ≤ size_limit → Known sel c.args.j.now c.args.same → Reached sel c.args.j.now (position c.loop-at.at c.loop-at.counts) → Reached sel c.args.j.now (position (c.loop-at.at + 4 * c.args.same.size) (c.loop-at.counts + 4 * c.args.same.weight)) =
    λ sel small k t. reached_four sel c.args.j.now c.args.same small k c.loop-at.at c.loop-at.counts (omega arith) (sym c.four_headers.ensures ∙ c.if-not-four_headers.false) t in
    let reached : Reached c.args.selection.now c.args.j.now (position c.loop-at.at c.loop-at.counts) =
    c.loop-at.invariant.0 _ c.requires.3 c.requires.1 c.requires.0 in
    let here : Reached c.args.selection.now c.args.j.now (position (c.loop-at.at + 4 * c.args.same.size) (c.loop-at.counts + 4 * c.args.same.weight)) =
    turn _ c.requires.3 c.requires.1 (reached) in
    record { fits = omega (arith, here) }

pub overflow_add-at-in-loop-at : goal.overflow_add-at-in-loop-at
overflow_add-at-in-loop-at c =
    let turn : (sel : Selection) → length c.args.j.now ≤ size_limit → Known sel c.args.j.now c.args.same → Reached sel c.args.j.now (position c.loop-at.at c.loop-at.counts) → Reached sel c.args.j.now (position (c.loop-at.at + 4 * c.args.same.size) (c.loop-at.counts + 4 * c.args.same.weight)) =
    λ sel small k t. reached_four sel c.args.j.now c.args.same small k c.loop-at.at c.loop-at.counts (omega arith) (sym c.four_headers.ensures ∙ c.if-not-four_headers.false) t in
    let reached : Reached c.args.selection.now c.args.j.now (position c.loop-at.at c.loop-at.counts) =
    c.loop-at.invariant.0 _ c.requires.3 c.requires.1 c.requires.0 in
    let here : Reached c.args.selection.now c.args.j.now (position (c.loop-at.at + 4 * c.args.same.size) (c.loop-at.counts + 4 * c.args.same.weight)) =
    turn _ c.requires.3 c.requires.1 (reached) in
    omega (arith, here)

pub loop-at-smaller : goal.loop-at-smaller
loop-at-smaller c =
    omega (arith, c.requires.1.large)

pub loop-at-preserved : goal.loop-at-preserved
loop-at-preserved c =
    let turn : (sel : Selection) → length c.args.j.now ≤ size_limit → Known sel c.args.j.now c.args.same → Reached sel c.args.j.now (position c.loop-at.at c.loop-at.counts) → Reached sel c.args.j.now (position (c.loop-at.at + 4 * c.args.same.size) (c.loop-at.counts + 4 * c.args.same.weight)) =
    λ sel small k t. reached_four sel c.args.j.now c.args.same small k c.loop-at.at c.loop-at.counts (omega arith) (sym c.four_headers.ensures ∙ c.if-not-four_headers.false) t in
    (λ sel small k t. rw c.loop-at.invariant.2 (turn sel small k (c.loop-at.invariant.0 sel small k t)), omega arith, c.loop-at.invariant.2)

pub returns-after-loop-at : goal.returns-after-loop-at
returns-after-loop-at c =
    let reached : Reached c.args.selection.now c.args.j.now (position c.loop-at.at c.loop-at.counts) =
    c.loop-at.invariant.0 _ c.requires.3 c.requires.1 c.requires.0 in
    (reached, c.loop-at.invariant.1)

pub returns-then-not-four_headers : goal.returns-then-not-four_headers
returns-then-not-four_headers c =
    let reached : Reached c.args.selection.now c.args.j.now (position c.loop-at.at c.loop-at.counts) =
    c.loop-at.invariant.0 _ c.requires.3 c.requires.1 c.requires.0 in
    (reached, c.loop-at.invariant.1)

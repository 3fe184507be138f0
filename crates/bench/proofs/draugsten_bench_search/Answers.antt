use Rattle.std.proofs.Common.{◌≡◌, ◌+◌, ◌-◌, refl, ap, arith}
use Rattle.inventory.specs.Listing.{listed}
use Rattle.inventory.specs.declared.locating.Located.{Located}
use Rattle.inventory.proofs.Search.{NextMatch, next_match}
use Rattle.bench.proofs.Searching.{walked_step, walked_end}
use Rattle.bench.proofs.draugsten_bench_search.Goals as goal

pub loop-passed-init : goal.loop-passed-init
unfolding listed
loop-passed-init c =
    record { onward = c.requires.0; due = omega (arith, c.requires.1); same = refl }

pub locate-entry-requires : goal.locate-entry-requires
locate-entry-requires c =
    let next : NextMatch c.args.flag c.args.item_type c.args.inventory.now c.loop-passed.at c.next_entry-found.result =
    rw c.next_entry-found.ensures.value (next_match c.loop-passed.invariant.onward (omega (arith, c.loop-passed.invariant.due))) in
    next.readable

pub overflow_add-at : goal.overflow_add-at
overflow_add-at c =
    let next : NextMatch c.args.flag c.args.item_type c.args.inventory.now c.loop-passed.at c.next_entry-found.result =
    rw c.next_entry-found.ensures.value (next_match c.loop-passed.invariant.onward (omega (arith, c.loop-passed.invariant.due))) in
    omega (arith, next.readable.inside, ap (λ (l : Located). l.size) c.locate-entry.ensures)

pub loop-passed-preserved : goal.loop-passed-preserved
loop-passed-preserved c =
    let next : NextMatch c.args.flag c.args.item_type c.args.inventory.now c.loop-passed.at c.next_entry-found.result =
    rw c.next_entry-found.ensures.value (next_match c.loop-passed.invariant.onward (omega (arith, c.loop-passed.invariant.due))) in
    let one_less : c.args.count - (c.loop-passed.passed + 1) ≡ c.args.count - c.loop-passed.passed - 1 = omega arith in
    rw one_less (walked_step c.loop-passed.invariant (next) c.locate-entry.ensures)

pub returns : goal.returns
returns c =
    walked_end c.loop-passed.invariant (omega arith)

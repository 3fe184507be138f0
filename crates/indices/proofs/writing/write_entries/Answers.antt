use Rattle.std.proofs.Common.{ℕ, ◌+◌, ap, arith}
use Rattle.inventory.proofs.Codes.{code_in_word}
use Rattle.indices.proofs.Writes.{writing_start, next_found, entry_within, writing_full, writing_next, writing_end}
use Rattle.indices.proofs.writing.write_entries.Goals as goal

pub loop-handed-init : goal.loop-handed-init
loop-handed-init c =
    writing_start _ _ _ c.args.inventory.now c.args.area.now _ c.requires.0 c.requires.1 c.requires.2

pub locate-entry-requires : goal.locate-entry-requires
locate-entry-requires c =
    (next_found c.loop-handed.invariant c.loop-handed-test.true _ c.next_entry-found.ensures.value).readable

pub filled_size-taken-requires : goal.filled_size-taken-requires
filled_size-taken-requires c =
    let next = next_found c.loop-handed.invariant c.loop-handed-test.true _ c.next_entry-found.ensures.value in
    (entry_within c.loop-handed.invariant _ _ next c.locate-entry.ensures).0

pub overflow_add-taken : goal.overflow_add-taken
overflow_add-taken c =
    let next = next_found c.loop-handed.invariant c.loop-handed-test.true _ c.next_entry-found.ensures.value in
    omega (arith, entry_within c.loop-handed.invariant _ _ next c.locate-entry.ensures, code_in_word)

pub returns-then-area-to : goal.returns-then-area-to
returns-then-area-to c =
    let next = next_found c.loop-handed.invariant c.loop-handed-test.true _ c.next_entry-found.ensures.value in
    let both = writing_full c.loop-handed.invariant _ _ _ next c.locate-entry.ensures (ap (λ (n : ℕ). 8 + n) c.filled_size-taken.ensures) c.if-area-to.true in
    record { value = both.0; area_after = both.1 }

pub store_entry-requires : goal.store_entry-requires
store_entry-requires c =
    let next = next_found c.loop-handed.invariant c.loop-handed-test.true _ c.next_entry-found.ensures.value in
    omega (arith, entry_within c.loop-handed.invariant _ _ next c.locate-entry.ensures)

pub overflow_add-at : goal.overflow_add-at
overflow_add-at c =
    let next = next_found c.loop-handed.invariant c.loop-handed-test.true _ c.next_entry-found.ensures.value in
    omega (arith, entry_within c.loop-handed.invariant _ _ next c.locate-entry.ensures)

pub loop-handed-preserved : goal.loop-handed-preserved
loop-handed-preserved c =
    let next = next_found c.loop-handed.invariant c.loop-handed-test.true _ c.next_entry-found.ensures.value in
    rw c.store_entry.ensures (writing_next c.loop-handed.invariant _ _ _ next c.locate-entry.ensures (ap (λ (n : ℕ). 8 + n) c.filled_size-taken.ensures) c.if-area-to.false)

pub returns : goal.returns
returns c =
    let both = writing_end c.loop-handed.invariant c.loop-handed-test.false in
    record { value = omega (arith, both.0, c.loop-handed-test.false, c.loop-handed.auto.handed-end); area_after = both.1 }

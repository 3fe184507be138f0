-- `running::store_section` meets its contract.
use mathlib.Core.Path.{◌≡◌, sym, ◌∙◌}
use mathlib.Core.List.{List}
use Prim.Native.Nat.{ℕ, ◌+◌, ◌≤◌}
use native.Mathlib.Omega.{arith}
use borrow.Author.Rules.{rules}
use lib.ListN.{length}
use Rattle.words.proofs.Ranges.{range_from}
use Rattle.dumping.specs.declared.section.Section.{Section}
use Rattle.dumping.specs.Section.{actual_length}
use Rattle.dumping.specs.Running.{source_of}
use Rattle.dumping.proofs.Claims.{section_claims}
use Rattle.dumping.proofs.running.store_section.Goals as goal

-- what is copied lies in its source and in memory
inside : (source memory : List ℕ) (x : Section) (n : ℕ) → n ≡ actual_length (length source) (length memory) x → (n ≡ 0 → ⊥) → (x.start + n ≤ length source) × (x.destination + n ≤ length memory)
inside source memory x n e z =
    let h = section_claims.copied_inside (length source) (length memory) x (omega (arith, e, z)) in
    (omega (arith, e, h), omega (arith, e, h))

pub overflow_add-from : goal.overflow_add-from
unfolding source_of
overflow_add-from c =
    let a = c.args in
    let source : source_of a.platform.now a.memory.now a.section ≡ a.platform.now = rw (sym c.is_platform.ensures ∙ c.if-is_platform.true) in
    let i = inside a.platform.now a.memory.now a.section a.actual (rw source at c.requires) c.if-actual-eq0.false in
    search (rules, i)

pub slice_bounds-store-end : goal.slice_bounds-store-end
unfolding source_of
slice_bounds-store-end c =
    let a = c.args in
    let source : source_of a.platform.now a.memory.now a.section ≡ a.platform.now = rw (sym c.is_platform.ensures ∙ c.if-is_platform.true) in
    let i = inside a.platform.now a.memory.now a.section a.actual (rw source at c.requires) c.if-actual-eq0.false in
    search (rules, i)

pub store-requires : goal.store-requires
unfolding source_of
store-requires c =
    let a = c.args in
    let source : source_of a.platform.now a.memory.now a.section ≡ a.platform.now = rw (sym c.is_platform.ensures ∙ c.if-is_platform.true) in
    let i = inside a.platform.now a.memory.now a.section a.actual (rw source at c.requires) c.if-actual-eq0.false in
    search (rules, i)

pub move_bytes-requires : goal.move_bytes-requires
unfolding source_of
move_bytes-requires c =
    let a = c.args in
    let source : source_of a.platform.now a.memory.now a.section ≡ a.memory.now = rw (sym c.is_platform.ensures ∙ c.if-is_platform.false) in
    let i = inside a.memory.now a.memory.now a.section a.actual (rw source at c.requires) c.if-actual-eq0.false in
    (i.1, i.0)

pub returns-then-is_platform : goal.returns-then-is_platform
unfolding source_of
returns-then-is_platform c =
    let a = c.args in
    let source : source_of a.platform.now a.memory.now a.section ≡ a.platform.now = rw (sym c.is_platform.ensures ∙ c.if-is_platform.true) in
    rw (source, ← range_from a.platform.now a.section.start a.actual) c.store.ensures

pub returns-else-is_platform : goal.returns-else-is_platform
unfolding source_of
returns-else-is_platform c =
    let a = c.args in
    let source : source_of a.platform.now a.memory.now a.section ≡ a.memory.now = rw (sym c.is_platform.ensures ∙ c.if-is_platform.false) in
    rw source c.move_bytes.ensures

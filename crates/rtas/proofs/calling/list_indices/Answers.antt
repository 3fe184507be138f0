-- `calling::list_indices` meets its contract.
use mathlib.Core.Path.{ap, ◌∙◌, sym}
use Prim.Native.Nat.{ℕ}
use lib.Dec.{leb}
use borrow.Author.Tests.{le-leb, lt-leb}
use Rattle.rtas.proofs.IndexedLaws.{indexes_answered, indexes_refused}
use Rattle.rtas.proofs.calling.list_indices.Goals as goal

pub returns-then-from-le1 : goal.returns-then-from-le1
returns-then-from-le1 c =
    let s = c.args in
    indexes_answered s.memory.now s.inventory.now s.args.now s.edition s.reading _ _ _ _ ((rw c.request_of-request.ensures at c.get_indices-listed.ensures.status_value, rw c.request_of-request.ensures at c.get_indices-listed.ensures.memory_after)) (rw c.request_of-request.ensures at c.record_after-reading.ensures) _
    (ap (λ (n : ℕ). leb n 1) (sym c.from.ensures) ∙ le-leb _ 1 c.if-from-le1.true) c.store.ensures

pub returns-else-from-le1 : goal.returns-else-from-le1
returns-else-from-le1 c =
    let s = c.args in
    indexes_refused s.memory.now s.inventory.now s.args.now s.edition s.reading _ _ _ _ ((rw c.request_of-request.ensures at c.get_indices-listed.ensures.status_value, rw c.request_of-request.ensures at c.get_indices-listed.ensures.memory_after)) (rw c.request_of-request.ensures at c.record_after-reading.ensures)
    (ap (λ (n : ℕ). leb n 1) (sym c.from.ensures) ∙ lt-leb _ 1 c.if-from-le1.false)

-- `playing::set_memory` meets its contract.
use native.Mathlib.Omega.{arith}
use Rattle.playing.proofs.Leaves.{set_short, set_past, set_not, set_done}
use Rattle.playing.proofs.playing.set_memory.Goals as goal

pub returns-then-item-lt9 : goal.returns-then-item-lt9
returns-then-item-lt9 c =
    let a = c.args in
    let both = set_not a.memory.now _ a.from _ c.fault.ensures (set_short a.memory.now a.item.now c.if-item-lt9.true) in
    record { value = both.0; memory_after = both.1 }

pub returns-then-memory-at : goal.returns-then-memory-at
returns-then-memory-at c =
    let a = c.args in
    let both = set_not a.memory.now _ a.from _ c.fault-then-memory-at.ensures (set_past a.memory.now a.item.now (omega (arith, c.read_le32-at.ensures))) in
    record { value = both.0; memory_after = both.1 }

pub returns : goal.returns
returns c =
    let a = c.args in
    let both = set_done a.memory.now a.item.now a.from _ _ _ c.read_le32-at.ensures c.play_on.ensures c.store.ensures c.if-item-lt9.false c.if-memory-at.false in
    record { value = both.0; memory_after = both.1 }

-- `head::write_head` meets its contract.
use mathlib.Core.List.{[], ◌∷◌}
use mathlib.Core.Path.{refl}
use Prim.Native.Nat.{◌/◌, ◌%◌}
use Rattle.node_area.specs.Head.{address_of}
use Rattle.words.proofs.Stores.{store_next}
use Rattle.node_area.proofs.head.write_head.Goals as goal

pub returns : goal.returns
returns c =
    let a = c.args in
    let l = a.area.now in
    let s = a.state.0 in
    let address = c.address_of-address.ensures in
    let high = address_of a.units / 0x1_0000_0000 in
    let low = address_of a.units % 0x1_0000_0000 in
    store_next l c.store_be32-2.new.s 0 0 c.store_be32-3.new.s 12 (s ∷ high ∷ low ∷ [])
    (store_next l c.store_be32.new.s 0 low c.store_be32-2.new.s 8 (s ∷ high ∷ [])
    (store_next l c.store.new.area 0 high c.store_be32.new.s 4 (s ∷ []) c.store.ensures (rw address at c.store_be32.ensures) refl)
    (rw address at c.store_be32-2.ensures) refl) c.store_be32-3.ensures refl

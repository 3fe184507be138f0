-- `writing::write_last` meets its contract.
use mathlib.Core.Path.{refl}
use Prim.Native.Nat.{◌+◌, ◌-◌}
use native.Mathlib.Omega.{arith}
use borrow.Author.Tests.{lt-ltb, le-ltb}
use Rattle.node_area.specs.Head.{area_size}
use Rattle.properties.proofs.writing.write_last.Goals as goal

pub returns-then-room-header : goal.returns-then-room-header
returns-then-room-header c =
    let a = c.args in
    rw (le-ltb (a.p.name_length + 5) (area_size - a.to) (omega (arith, c.if-room-header.true))) record { value = refl; area_after = refl }

pub returns : goal.returns
returns c =
    let a = c.args in
    rw (lt-ltb (a.p.name_length + 5) (area_size - a.to) (omega (arith, c.if-room-header.false))) record { value = refl; area_after = c.store_piece.ensures }

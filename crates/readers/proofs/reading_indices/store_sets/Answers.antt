use mathlib.Core.Path.{◌≡◌}
use Prim.Native.Nat.{◌+◌, ◌-◌, ◌≤◌}
use native.Mathlib.Omega.{arith}
use lib.ListN.{length}
use Rattle.indices.specs.Reading.{length_at}
use Rattle.readers.proofs.EntryWords.{storing_first}
use Rattle.readers.proofs.IndexWords.{storing_fine, storing_room, storing_next, storing_end}
use Rattle.readers.proofs.reading_indices.store_sets.Goals as goal

pub loop-i-init : goal.loop-i-init
loop-i-init c =
    storing_first _ _ _ _ _ _ _ c.requires.1

pub overflow_add-at : goal.overflow_add-at
overflow_add-at c =
    let room : 8 + length_at c.args.area.now c.loop-i.at ≤ length c.args.area.now - c.loop-i.at =
    storing_room c.loop-i.invariant c.loop-i-test.true in
    omega (arith, room)

pub read_be32-n-requires : goal.read_be32-n-requires
read_be32-n-requires c =
    let room : 8 + length_at c.args.area.now c.loop-i.at ≤ length c.args.area.now - c.loop-i.at =
    storing_room c.loop-i.invariant c.loop-i-test.true in
    omega (arith, room)

pub read_be32-requires : goal.read_be32-requires
read_be32-requires c =
    let room : 8 + length_at c.args.area.now c.loop-i.at ≤ length c.args.area.now - c.loop-i.at =
    storing_room c.loop-i.invariant c.loop-i-test.true in
    omega (arith, room)

pub overflow_add-set : goal.overflow_add-set
overflow_add-set c =
    let room : 8 + length_at c.args.area.now c.loop-i.at ≤ length c.args.area.now - c.loop-i.at =
    storing_room c.loop-i.invariant c.loop-i-test.true in
    omega (arith, room)

pub code_length-requires : goal.code_length-requires
unfolding length_at
code_length-requires c =
    let length_read : c.read_be32-n.result ≡ length_at c.args.area.now c.loop-i.at =
    c.read_be32-n.ensures in
    (length_read, storing_fine c.loop-i.invariant c.loop-i-test.true)

pub overflow_add-at-in-loop-i : goal.overflow_add-at-in-loop-i
unfolding length_at
overflow_add-at-in-loop-i c =
    let room : 8 + length_at c.args.area.now c.loop-i.at ≤ length c.args.area.now - c.loop-i.at =
    storing_room c.loop-i.invariant c.loop-i-test.true in
    let length_read : c.read_be32-n.result ≡ length_at c.args.area.now c.loop-i.at =
    c.read_be32-n.ensures in
    omega (arith, room, length_read)

pub overflow_add-at-in-loop-i-2 : goal.overflow_add-at-in-loop-i-2
unfolding length_at
overflow_add-at-in-loop-i-2 c =
    let room : 8 + length_at c.args.area.now c.loop-i.at ≤ length c.args.area.now - c.loop-i.at =
    storing_room c.loop-i.invariant c.loop-i-test.true in
    let length_read : c.read_be32-n.result ≡ length_at c.args.area.now c.loop-i.at =
    c.read_be32-n.ensures in
    omega (arith, room, length_read)

pub loop-i-preserved : goal.loop-i-preserved
unfolding length_at
loop-i-preserved c =
    let length_read : c.read_be32-n.result ≡ length_at c.args.area.now c.loop-i.at =
    c.read_be32-n.ensures in
    storing_next c.loop-i.invariant c.loop-i-test.true _ _ _ c.read_be32.ensures (length_read) c.code_length.ensures c.store_set.ensures

pub returns : goal.returns
returns c =
    storing_end c.loop-i.invariant c.loop-i-test.false

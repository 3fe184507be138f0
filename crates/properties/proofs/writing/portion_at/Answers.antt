-- `writing::portion_at` meets its contract.
use Prim.Native.Nat.{◌+◌, ◌≤◌}
use native.Mathlib.Omega.{arith}
use lib.ListN.{length}
use Rattle.properties.proofs.Standing.{record_fits, stands, portion_inside, portion_is}
use Rattle.properties.proofs.writing.portion_at.Goals as goal

pub read_property-p-requires : goal.read_property-p-requires
read_property-p-requires c =
    c.requires.0

pub overflow_add-end : goal.overflow_add-end
overflow_add-end c =
    let inside : let p = c.read_property-p.result in (c.args.at + p.size ≤ length c.args.j.now) × (9 + p.name_length ≤ p.size) =
    let h = c.requires.0 in
    rw c.read_property-p.ensures (record_fits c.args.j.now c.args.at h, (stands c.args.j.now c.args.at h).within) in
    omega (arith, inside)

pub overflow_add-start-2 : goal.overflow_add-start-2
overflow_add-start-2 c =
    let inside : let p = c.read_property-p.result in (c.args.at + p.size ≤ length c.args.j.now) × (9 + p.name_length ≤ p.size) =
    let h = c.requires.0 in
    rw c.read_property-p.ensures (record_fits c.args.j.now c.args.at h, (stands c.args.j.now c.args.at h).within) in
    omega (arith, inside)

-- and so does what is due
pub overflow_sub-result : goal.overflow_sub-result
overflow_sub-result c =
    omega (
      arith,
      portion_inside c.args.j.now c.args.at c.requires.0 c.args.state c.requires.1 c.read_property-p.result c.read_property-p.ensures c.max-value.result c.max.result
          c.max-value.ensures c.max.ensures,
    )

pub returns : goal.returns
returns c =
    portion_is c.args.j.now c.args.at c.requires.0 c.args.state c.requires.1 c.read_property-p.result c.read_property-p.ensures c.max-value.result c.max.result
    c.max-value.ensures c.max.ensures

-- `reading_nodes::read_nodes` meets its contract.
use mathlib.Core.Path.{refl}
use native.Mathlib.Omega.{arith}
use Rattle.readers.proofs.NodeWords.{refused_reading, Good, good, good_out}
use Rattle.readers.proofs.reading_nodes.read_nodes.Goals as goal

pub store_operations-requires : goal.store_operations-requires
store_operations-requires c =
    let found : Good c.args.scope c.args.area.now c.in-Ok.entries =
    good _ _ _ _ c.check_area.ensures.value c.in-Ok.is in
    let g = found in let least = c.min.ensures in (omega arith, omega arith, g.fine)

pub read-requires : goal.read-requires
read-requires c =
    let found : Good c.args.scope c.args.area.now c.in-Ok.entries =
    good _ _ _ _ c.check_area.ensures.value c.in-Ok.is in
    omega (arith, found.size)

pub returns-in-Err : goal.returns-in-Err
returns-in-Err c =
    rw (refused_reading _ _ _ _ c.check_area.ensures.value c.in-Err.is, c.from.ensures) record { value = refl; out_after = refl }

pub returns-in-Ok : goal.returns-in-Ok
returns-in-Ok c =
    let found : Good c.args.scope c.args.area.now c.in-Ok.entries =
    good _ _ _ _ c.check_area.ensures.value c.in-Ok.is in
    let g = found in
    record { value = rw (g.is, g.entries, c.read.ensures); out_after = good_out g _ _ _ c.min.ensures c.store_operations.ensures }

use mathlib.Core.Path.{refl}
use Prim.Native.Nat.{◌+◌, ◌≤◌}
use native.Mathlib.Omega.{arith}
use lib.ListN.{length}
use Rattle.properties.proofs.Seeking.{Next, next_found}
use Rattle.properties.proofs.Writes.{writing_start, writing_end, holds, first_within, portion_fits, portion_onward, writing_next, writing_last, handed_out}
use Rattle.properties.proofs.writing.write_due.Goals as goal

pub next_change-at-requires : goal.next_change-at-requires
next_change-at-requires c =
    let r = c.requires.1 in record { inside = r.inside; good = r.good }

pub loop-at-init : goal.loop-at-init
loop-at-init c =
    let a = c.args in
    let r = c.requires.1 in
    writing_start a.phandle a.state a.j.now a.area.now a.place c.next_change-at.result c.requires.0 r
    (next_found c.next_change-at.result (record { inside = r.inside; good = r.good }) c.next_change-at.ensures)

pub portion_at-p-requires : goal.portion_at-p-requires
portion_at-p-requires c =
    (holds c.loop-at.invariant c.loop-at-test.true, first_within c.loop-at.invariant c.loop-at-test.true)

pub overflow_add-whole : goal.overflow_add-whole
overflow_add-whole c =
    let fits : let p = c.portion_at-p.result in let j = c.args.j.now in (p.name + p.name_length ≤ length j) × (p.value + p.length ≤ length j) × (p.end ≤ length j) × (c.loop-at.at + 9 + p.name_length + p.length ≤ p.end) =
    portion_fits c.loop-at.invariant c.loop-at-test.true c.portion_at-p.result c.portion_at-p.ensures in
    omega (arith, fits)

pub overflow_add-whole-in-loop-at : goal.overflow_add-whole-in-loop-at
overflow_add-whole-in-loop-at c =
    let fits : let p = c.portion_at-p.result in let j = c.args.j.now in (p.name + p.name_length ≤ length j) × (p.value + p.length ≤ length j) × (p.end ≤ length j) × (c.loop-at.at + 9 + p.name_length + p.length ≤ p.end) =
    portion_fits c.loop-at.invariant c.loop-at-test.true c.portion_at-p.result c.portion_at-p.ensures in
    omega (arith, fits)

pub overflow_sub-to : goal.overflow_sub-to
overflow_sub-to c =
    omega (arith, c.loop-at.invariant.filled)

pub write_last-requires : goal.write_last-requires
write_last-requires c =
    let fits : let p = c.portion_at-p.result in let j = c.args.j.now in (p.name + p.name_length ≤ length j) × (p.value + p.length ≤ length j) × (p.end ≤ length j) × (c.loop-at.at + 9 + p.name_length + p.length ≤ p.end) =
    portion_fits c.loop-at.invariant c.loop-at-test.true c.portion_at-p.result c.portion_at-p.ensures in
    let inv = c.loop-at.invariant in
    record {
      sized = inv.sized;
      filled = inv.filled;
      few = inv.few;
      name = fits.0;
      value = fits.1;
      over = omega (arith, inv.filled, c.if-to-whole.true);
    }

pub returns-then-to-whole : goal.returns-then-to-whole
returns-then-to-whole c =
    let inv = c.loop-at.invariant in
    handed_out inv c.write_last.result _
    (writing_last inv c.loop-at-test.true c.portion_at-p.result c.portion_at-p.ensures c.write_last.result _ c.if-to-whole.true c.write_last.ensures.value
    c.write_last.ensures.area_after)

pub last_descriptor-requires : goal.last_descriptor-requires
last_descriptor-requires c =
    omega (arith, c.if-to-whole.false)

pub store_piece-requires : goal.store_piece-requires
store_piece-requires c =
    let fits : let p = c.portion_at-p.result in let j = c.args.j.now in (p.name + p.name_length ≤ length j) × (p.value + p.length ≤ length j) × (p.end ≤ length j) × (c.loop-at.at + 9 + p.name_length + p.length ≤ p.end) =
    portion_fits c.loop-at.invariant c.loop-at-test.true c.portion_at-p.result c.portion_at-p.ensures in
    let inv = c.loop-at.invariant in
    omega (arith, inv.sized, inv.filled, fits, c.if-to-whole.false)

pub next_change-at-requires-in-loop-at : goal.next_change-at-requires-in-loop-at
next_change-at-requires-in-loop-at c =
    portion_onward c.loop-at.invariant c.loop-at-test.true c.portion_at-p.result c.portion_at-p.ensures

pub loop-at-smaller : goal.loop-at-smaller
loop-at-smaller c =
    let next : let a = c.args in Next a.phandle a.j.now c.portion_at-p.result.end c.next_change-at-in-loop-at.result =
    let onward = portion_onward c.loop-at.invariant c.loop-at-test.true c.portion_at-p.result c.portion_at-p.ensures in
    next_found c.next_change-at-in-loop-at.result onward c.next_change-at-in-loop-at.ensures in
    let fits : let p = c.portion_at-p.result in let j = c.args.j.now in (p.name + p.name_length ≤ length j) × (p.value + p.length ≤ length j) × (p.end ≤ length j) × (c.loop-at.at + 9 + p.name_length + p.length ≤ p.end) =
    portion_fits c.loop-at.invariant c.loop-at-test.true c.portion_at-p.result c.portion_at-p.ensures in
    omega (arith, next.forward, fits, c.loop-at-test.true)

pub loop-at-preserved : goal.loop-at-preserved
loop-at-preserved c =
    let next : let a = c.args in Next a.phandle a.j.now c.portion_at-p.result.end c.next_change-at-in-loop-at.result =
    let onward = portion_onward c.loop-at.invariant c.loop-at-test.true c.portion_at-p.result c.portion_at-p.ensures in
    next_found c.next_change-at-in-loop-at.result onward c.next_change-at-in-loop-at.ensures in
    rw (c.store_piece.ensures, c.last_descriptor.ensures)
    (writing_next c.loop-at.invariant c.loop-at-test.true c.portion_at-p.result c.portion_at-p.ensures (c.portion_at-p.result.name_length + 5 + c.portion_at-p.result.length) c.next_change-at-in-loop-at.result refl
    c.if-to-whole.false (next))

pub returns : goal.returns
returns c =
    handed_out c.loop-at.invariant _ _ (writing_end c.loop-at.invariant c.loop-at-test.false)

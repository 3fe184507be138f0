-- `coming::registration_came` meets its contract.
use mathlib.Core.Bool.{◌&&◌}
use mathlib.Core.Path.{◌≡◌}
use native.Mathlib.Omega.{arith}
use Prim.Native.Nat.{◌-◌}
use lib.ListN.{length, take, drop, length-drop}
use lib.Seq.{take_all}
use borrow.Author.Rules.{rules}
use borrow.Author.Tests.{le-leb, lt-leb, eq-eqb, ne_eqb}
use Rattle.words.specs.Numbers.{zeros}
use Rattle.dump.specs.Structure.{good_structure}
use Rattle.dump.specs.Registration.{copy_size}
use Rattle.crossing.specs.Registration.{registration_of}
use Rattle.trace.specs.Came.{registration_came}
use Rattle.replay_states.proofs.coming.registration_came.Goals as goal

pub returns-then-length-eq0 : goal.returns-then-length-eq0
unfolding registration_came
returns-then-length-eq0 c =
    rw (eq-eqb _ 0 c.if-flat-eq0.true, eq-eqb _ 0 c.if-length-eq0.true, c.are_zeros.ensures)

pub returns-else-length-eq0 : goal.returns-else-length-eq0
unfolding registration_came
returns-else-length-eq0 c =
    rw (eq-eqb _ 0 c.if-flat-eq0.true, ne_eqb _ 0 c.if-length-eq0.false)

pub returns-then-flat-ne1 : goal.returns-then-flat-ne1
unfolding registration_came
returns-then-flat-ne1 c =
    rw (ne_eqb _ 0 c.if-flat-eq0.false, ne_eqb _ 1 c.if-flat-ne1.true)

pub returns-then-length-gt-COPY_SIZE : goal.returns-then-length-gt-COPY_SIZE
unfolding registration_came
returns-then-length-gt-COPY_SIZE c =
    rw (ne_eqb _ 0 c.if-flat-eq0.false, eq-eqb _ 1 c.if-flat-ne1.false, lt-leb _ copy_size c.if-length-gt-COPY_SIZE.true)

pub slice_bounds-copy-end : goal.slice_bounds-copy-end
slice_bounds-copy-end c =
    let full : length c.args.flat.copy ≡ copy_size =
    search rules in
    omega (arith, c.if-length-gt-COPY_SIZE.false, full)

pub returns-then-is_structure : goal.returns-then-is_structure
unfolding registration_came
returns-then-is_structure c =
    let left : let f = c.args.flat in registration_came (registration_of f) ≡ (good_structure (take f.length f.copy) && zeros (drop f.length f.copy)) =
    rw (ne_eqb _ 0 c.if-flat-eq0.false, eq-eqb _ 1 c.if-flat-ne1.false, le-leb _ copy_size c.if-length-gt-COPY_SIZE.false) in
    let full : length c.args.flat.copy ≡ copy_size =
    search rules in
    let behind : let f = c.args.flat in take (copy_size - f.length) (drop f.length f.copy) ≡ drop f.length f.copy =
    take_all _ _ (omega (arith, full, length-drop c.args.flat.length c.args.flat.copy)) in
    rw (left, ← c.is_structure.ensures.value, c.if-is_structure.true, c.are_zeros-then-is_structure.ensures, behind)

pub returns-else-is_structure : goal.returns-else-is_structure
unfolding registration_came
returns-else-is_structure c =
    let left : let f = c.args.flat in registration_came (registration_of f) ≡ (good_structure (take f.length f.copy) && zeros (drop f.length f.copy)) =
    rw (ne_eqb _ 0 c.if-flat-eq0.false, eq-eqb _ 1 c.if-flat-ne1.false, le-leb _ copy_size c.if-length-gt-COPY_SIZE.false) in
    rw (left, ← c.is_structure.ensures.value, c.if-is_structure.false)

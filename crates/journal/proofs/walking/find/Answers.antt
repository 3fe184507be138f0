use mathlib.Core.Path.{◌≡◌}
use Prim.Native.Nat.{◌+◌, ◌-◌, ◌<◌}
use native.Mathlib.Omega.{arith}
use lib.ListN.{length, drop}
use Rattle.journal.proofs.Entries.{each_entry}
use Rattle.journal.proofs.MarkLaws.{sought_resumes}
use Rattle.journal.proofs.Walks.{all_good_lem, resumes_step}
use Rattle.journal.specs.Journal.{entry_of, number}
use Rattle.journal.proofs.Opcodes.{number_is}
use Rattle.journal.specs.Marks.{Resumes}
use Rattle.journal.specs.Reportable.{operation, reports}
use Rattle.records.proofs.Choosing.{one_if_le, still_inside}
use Rattle.records.specs.Records.{first_record}
use Rattle.journal.proofs.walking.find.Goals as goal

pub seek-place-requires : goal.seek-place-requires
seek-place-requires c =
    c.requires.1.few

pub loop-skip-init : goal.loop-skip-init
loop-skip-init c =
    rw c.seek-place.ensures (sought_resumes c.args.selection.now c.args.j.now _ _ _ c.requires.1 (number_is c.args.opcode))

pub visit-p-requires : goal.visit-p-requires
visit-p-requires c =
    let inside : c.loop-skip.at < length c.args.j.now =
    still_inside (reports c.args.selection.now (number c.args.opcode)) operation each_entry c.args.j.now c.loop-skip.at (omega (arith, c.loop-skip.invariant.number, c.requires.2)) in
    (inside, c.loop-skip.invariant.sound (all_good_lem c.args.j.now c.requires.0))

pub overflow_add-at : goal.overflow_add-at
overflow_add-at c =
    let inside : c.loop-skip.at < length c.args.j.now =
    still_inside (reports c.args.selection.now (number c.args.opcode)) operation each_entry c.args.j.now c.loop-skip.at (omega (arith, c.loop-skip.invariant.number, c.requires.2)) in
    let turn : Resumes c.args.selection.now c.args.j.now (number c.args.opcode) c.args.k (c.loop-skip.at + c.visit-p.result.size) (c.loop-skip.skip - c.visit-p.result.reported) =
    rw (c.visit-p.ensures.0, c.visit-p.ensures.1) (resumes_step c.args.selection.now c.args.j.now _ _ _ _ (all_good_lem c.args.j.now c.requires.0) (inside) c.loop-skip-test.true c.loop-skip.invariant) in
    omega (arith, turn.inside)

pub overflow_sub-skip : goal.overflow_sub-skip
overflow_sub-skip c =
    omega (arith, c.visit-p.ensures, one_if_le (reports c.args.selection.now (number c.args.opcode) (entry_of (first_record (drop c.loop-skip.at c.args.j.now)))))

pub loop-skip-smaller : goal.loop-skip-smaller
loop-skip-smaller c =
    let inside : c.loop-skip.at < length c.args.j.now =
    still_inside (reports c.args.selection.now (number c.args.opcode)) operation each_entry c.args.j.now c.loop-skip.at (omega (arith, c.loop-skip.invariant.number, c.requires.2)) in
    let turn : Resumes c.args.selection.now c.args.j.now (number c.args.opcode) c.args.k (c.loop-skip.at + c.visit-p.result.size) (c.loop-skip.skip - c.visit-p.result.reported) =
    rw (c.visit-p.ensures.0, c.visit-p.ensures.1) (resumes_step c.args.selection.now c.args.j.now _ _ _ _ (all_good_lem c.args.j.now c.requires.0) (inside) c.loop-skip-test.true c.loop-skip.invariant) in
    omega (arith, turn.inside, c.visit-p.ensures)

pub loop-skip-preserved : goal.loop-skip-preserved
loop-skip-preserved c =
    let inside : c.loop-skip.at < length c.args.j.now =
    still_inside (reports c.args.selection.now (number c.args.opcode)) operation each_entry c.args.j.now c.loop-skip.at (omega (arith, c.loop-skip.invariant.number, c.requires.2)) in
    let turn : Resumes c.args.selection.now c.args.j.now (number c.args.opcode) c.args.k (c.loop-skip.at + c.visit-p.result.size) (c.loop-skip.skip - c.visit-p.result.reported) =
    rw (c.visit-p.ensures.0, c.visit-p.ensures.1) (resumes_step c.args.selection.now c.args.j.now _ _ _ _ (all_good_lem c.args.j.now c.requires.0) (inside) c.loop-skip-test.true c.loop-skip.invariant) in
    turn

pub returns : goal.returns
returns c =
    let none : c.loop-skip.skip ≡ 0 =
    omega arith in
    rw (none) at c.loop-skip.invariant

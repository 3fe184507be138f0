-- `units::asked_here` meets its contract.
use mathlib.Core.Path.{◌≡◌, ◌∙◌}
use mathlib.Core.Bool.{cond}
use Prim.Native.Nat.{◌+◌, ◌*◌, ◌/◌, ◌≤◌}
use native.Mathlib.Omega.{arith}
use lib.ListN.{length}
use Rattle.words.specs.Numbers.{le}
use Rattle.records.proofs.Choosing.{one_if_le}
use Rattle.journal.specs.Inner.Terms.{is_unit}
use Rattle.journal.proofs.RecordLaws.{good_kind, unit_inside, asked_same, asked_one}
use Rattle.journal.proofs.units.asked_here.Goals as goal

pub overflow_mul-four : goal.overflow_mul-four
overflow_mul-four c =
    let inside : (c.args.at + 6 * (c.args.kind / 4) + 8 ≤ length c.args.j.now) × (c.args.kind ≤ 4) =
    rw c.requires.1 (unit_inside c.args.j.now c.args.at c.requires.0, (good_kind c.args.j.now c.args.at c.requires.0).high) in
    omega (arith, inside)

pub overflow_add-at : goal.overflow_add-at
overflow_add-at c =
    let inside : (c.args.at + 6 * (c.args.kind / 4) + 8 ≤ length c.args.j.now) × (c.args.kind ≤ 4) =
    rw c.requires.1 (unit_inside c.args.j.now c.args.at c.requires.0, (good_kind c.args.j.now c.args.at c.requires.0).high) in
    omega (arith, inside)

pub read_le64-requires : goal.read_le64-requires
read_le64-requires c =
    let inside : (c.args.at + 6 * (c.args.kind / 4) + 8 ≤ length c.args.j.now) × (c.args.kind ≤ 4) =
    rw c.requires.1 (unit_inside c.args.j.now c.args.at c.requires.0, (good_kind c.args.j.now c.args.at c.requires.0).high) in
    omega (arith, inside)

pub overflow_sub-result : goal.overflow_sub-result
overflow_sub-result c =
    let inside : (c.args.at + 6 * (c.args.kind / 4) + 8 ≤ length c.args.j.now) × (c.args.kind ≤ 4) =
    rw c.requires.1 (unit_inside c.args.j.now c.args.at c.requires.0, (good_kind c.args.j.now c.args.at c.requires.0).high) in
    omega (arith, inside)

pub overflow_add-result : goal.overflow_add-result
overflow_add-result c =
    let found : c.tally.result ≡ cond (is_unit c.args.units (le 8 c.args.j.now (c.args.at + 6 * (c.args.kind / 4)))) 1 0 =
    c.tally.ensures ∙ rw (c.same_unit-same.ensures, c.read_le64.ensures, c.wanted_unit.ensures)
    (asked_same c.args.units (le 8 c.args.j.now (c.args.at + 6 * (c.args.kind / 4)))) in
    let small : c.tally.result ≤ 1 =
    rw (found) (one_if_le (is_unit c.args.units (le 8 c.args.j.now (c.args.at + 6 * (c.args.kind / 4))))) in
    omega (arith, small)

pub returns : goal.returns
returns c =
    let found : c.tally.result ≡ cond (is_unit c.args.units (le 8 c.args.j.now (c.args.at + 6 * (c.args.kind / 4)))) 1 0 =
    c.tally.ensures ∙ rw (c.same_unit-same.ensures, c.read_le64.ensures, c.wanted_unit.ensures)
    (asked_same c.args.units (le 8 c.args.j.now (c.args.at + 6 * (c.args.kind / 4)))) in
    rw c.requires.1 (asked_one c.args.j.now c.args.at c.requires.0 c.args.units c.tally.result (rw c.requires.1 at (found)))

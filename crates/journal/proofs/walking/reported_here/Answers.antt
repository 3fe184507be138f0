-- `walking::reported_here` meets its contract.
use mathlib.Core.Bool.{Bool, true, false, cond, ◌&&◌}
use mathlib.Core.Path.{◌≡◌, refl}
use Prim.Native.Nat.{ℕ, ◌+◌, ◌/◌, ◌≤◌}
use native.Mathlib.Omega.{arith}
use lib.Dec.{eqb}
use lib.ListN.{get_or, drop}
use Rattle.words.specs.Numbers.{le}
use Rattle.records.specs.Records.{kind_of, first_record}
use Rattle.records.proofs.Choosing.{one_if_le}
use Rattle.journal.specs.Scope.{holds, asking}
use Rattle.journal.specs.Terms.{opcode_for}
use Rattle.journal.specs.Journal.{entry_of, number}
use Rattle.journal.specs.Reportable.{asks}
use Rattle.journal.proofs.RecordLaws.{good_size_lem, good_fits, good_node_lem, good_reports}
use Rattle.journal.proofs.walking.reported_here.Goals as goal

-- both of two tests
both : (a b : Bool) → ◌≡◌ {A = ℕ} ((cond a 1 0 + cond b 1 0) / 2) (cond (a && b) 1 0)
both true true = refl
both true false = refl
both false true = refl
both false false = refl

pub read_type-node-requires : goal.read_type-node-requires
read_type-node-requires c =
    let a = c.args in
    omega (arith, good_size_lem a.j.now a.at c.requires.0, good_fits a.j.now a.at c.requires.0)

pub bounds-row-node : goal.bounds-row-node
bounds-row-node c =
    omega (arith, c.read_type-node.ensures, good_node_lem c.args.j.now c.args.at c.requires.0)

pub overflow_add-result : goal.overflow_add-result
overflow_add-result c =
    let bits : (c.reported-bit.result ≤ 1) × (c.asked_here-asked.result ≤ 1) =
    let a = c.args in (
      rw c.reported-bit.ensures (one_if_le (eqb (opcode_for a.kind) (number a.opcode) && holds (get_or a.row.now c.read_type-node.result 0) (number a.opcode))),
      rw c.asked_here-asked.ensures (one_if_le (asks a.units (entry_of (first_record (drop a.at a.j.now))))),
    ) in
    omega (arith, bits)

pub returns : goal.returns
returns c =
    let a = c.args in
    rw (c.asked_here-asked.ensures, c.reported-bit.ensures, good_reports a.j.now a.at c.requires.0 (asking a.row.now a.units) (number a.opcode), c.read_type-node.ensures, c.requires.1)
    (both (eqb (opcode_for (kind_of (drop a.at a.j.now))) (number a.opcode) && holds (get_or a.row.now (le 2 a.j.now (a.at + 4)) 0) (number a.opcode)) (asks a.units (entry_of (first_record (drop a.at a.j.now)))))

-- `weights::weights_for` meets its contract.
use mathlib.Core.Path.{◌≡◌}
use mathlib.Core.List.{[]}
use Prim.Native.Nat.{ℕ, ◌*◌, ◌≤◌}
use native.Mathlib.Omega.{arith}
use lib.ListN.{get_or}
use mir.Syntax.{w64}
use mir.Val.{Fits}
use Rattle.journal.specs.Journal.{IsOpcode}
use Rattle.journal.specs.Scope.{rows}
use Rattle.journal.proofs.Opcodes.{kind_opcode}
use Rattle.scanning.specs.Inner.Terms.{weight_of}
use Rattle.stretch.specs.Inner.Terms.{bit_of}
use Rattle.stretch.proofs.RowNumbers.{row_number, weight_in_row, below}
use Rattle.stretch.proofs.weights.weights_for.Goals as goal

pub unit_of-unit-requires : goal.unit_of-unit-requires
unit_of-unit-requires c =
    let opcode : IsOpcode c.opcode_of-code.result =
    rw c.opcode_of-code.ensures (kind_opcode c.args.kind c.requires.0) in
    opcode

pub bit_of-requires : goal.bit_of-requires
bit_of-requires c =
    let opcode : IsOpcode c.opcode_of-code.result =
    rw c.opcode_of-code.ensures (kind_opcode c.args.kind c.requires.0) in
    (c.requires.1, opcode)

pub overflow_mul-result : goal.overflow_mul-result
overflow_mul-result c =
    let weighs : (n bit : ℕ) → n ≤ 3 → bit ≡ bit_of (row_number n) c.args.node c.opcode_of-code.result → c.unit_of-unit.result * bit ≡ weight_of (get_or rows n []) c.args.kind c.args.node =
    λ n bit h e. rw (e, c.unit_of-unit.ensures, c.opcode_of-code.ensures) (weight_in_row n _ _ h c.requires.0 c.requires.1) in
    let fits : (n bit : ℕ) → n ≤ 3 → bit ≡ bit_of (row_number n) c.args.node c.opcode_of-code.result → Fits w64 (c.unit_of-unit.result * bit) =
    λ n bit h e. record { fits = rw (weighs n bit h e) (below n _ _ c.requires.0) } in
    fits 0 _ (omega arith) c.bit_of.ensures

pub bit_of-requires-2 : goal.bit_of-requires-2
bit_of-requires-2 c =
    let opcode : IsOpcode c.opcode_of-code.result =
    rw c.opcode_of-code.ensures (kind_opcode c.args.kind c.requires.0) in
    (c.requires.1, opcode)

pub overflow_mul-result-2 : goal.overflow_mul-result-2
overflow_mul-result-2 c =
    let weighs : (n bit : ℕ) → n ≤ 3 → bit ≡ bit_of (row_number n) c.args.node c.opcode_of-code.result → c.unit_of-unit.result * bit ≡ weight_of (get_or rows n []) c.args.kind c.args.node =
    λ n bit h e. rw (e, c.unit_of-unit.ensures, c.opcode_of-code.ensures) (weight_in_row n _ _ h c.requires.0 c.requires.1) in
    let fits : (n bit : ℕ) → n ≤ 3 → bit ≡ bit_of (row_number n) c.args.node c.opcode_of-code.result → Fits w64 (c.unit_of-unit.result * bit) =
    λ n bit h e. record { fits = rw (weighs n bit h e) (below n _ _ c.requires.0) } in
    fits 1 _ (omega arith) c.bit_of-2.ensures

pub bit_of-requires-3 : goal.bit_of-requires-3
bit_of-requires-3 c =
    let opcode : IsOpcode c.opcode_of-code.result =
    rw c.opcode_of-code.ensures (kind_opcode c.args.kind c.requires.0) in
    (c.requires.1, opcode)

pub overflow_mul-result-3 : goal.overflow_mul-result-3
overflow_mul-result-3 c =
    let weighs : (n bit : ℕ) → n ≤ 3 → bit ≡ bit_of (row_number n) c.args.node c.opcode_of-code.result → c.unit_of-unit.result * bit ≡ weight_of (get_or rows n []) c.args.kind c.args.node =
    λ n bit h e. rw (e, c.unit_of-unit.ensures, c.opcode_of-code.ensures) (weight_in_row n _ _ h c.requires.0 c.requires.1) in
    let fits : (n bit : ℕ) → n ≤ 3 → bit ≡ bit_of (row_number n) c.args.node c.opcode_of-code.result → Fits w64 (c.unit_of-unit.result * bit) =
    λ n bit h e. record { fits = rw (weighs n bit h e) (below n _ _ c.requires.0) } in
    fits 2 _ (omega arith) c.bit_of-3.ensures

pub bit_of-requires-4 : goal.bit_of-requires-4
bit_of-requires-4 c =
    let opcode : IsOpcode c.opcode_of-code.result =
    rw c.opcode_of-code.ensures (kind_opcode c.args.kind c.requires.0) in
    (c.requires.1, opcode)

pub overflow_mul-result-4 : goal.overflow_mul-result-4
overflow_mul-result-4 c =
    let weighs : (n bit : ℕ) → n ≤ 3 → bit ≡ bit_of (row_number n) c.args.node c.opcode_of-code.result → c.unit_of-unit.result * bit ≡ weight_of (get_or rows n []) c.args.kind c.args.node =
    λ n bit h e. rw (e, c.unit_of-unit.ensures, c.opcode_of-code.ensures) (weight_in_row n _ _ h c.requires.0 c.requires.1) in
    let fits : (n bit : ℕ) → n ≤ 3 → bit ≡ bit_of (row_number n) c.args.node c.opcode_of-code.result → Fits w64 (c.unit_of-unit.result * bit) =
    λ n bit h e. record { fits = rw (weighs n bit h e) (below n _ _ c.requires.0) } in
    fits 3 _ (omega arith) c.bit_of-4.ensures

pub returns : goal.returns
returns c =
    let weighs : (n bit : ℕ) → n ≤ 3 → bit ≡ bit_of (row_number n) c.args.node c.opcode_of-code.result → c.unit_of-unit.result * bit ≡ weight_of (get_or rows n []) c.args.kind c.args.node =
    λ n bit h e. rw (e, c.unit_of-unit.ensures, c.opcode_of-code.ensures) (weight_in_row n _ _ h c.requires.0 c.requires.1) in
    let weight = weighs in
    rw (weight 0 _ (omega arith) c.bit_of.ensures, weight 1 _ (omega arith) c.bit_of-2.ensures, weight 2 _ (omega arith) c.bit_of-3.ensures, weight 3 _ (omega arith) c.bit_of-4.ensures)

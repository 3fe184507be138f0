-- `reading_indices::code_length` meets its contract.
use Prim.Native.Nat.{◌+◌, ◌≤◌}
use native.Mathlib.Omega.{arith}
use lib.ListN.{length}
use Rattle.readers.proofs.IndexWords.{field_stands, field_ends, nul_last, code_last}
use Rattle.readers.proofs.reading_indices.code_length.Goals as goal

pub overflow_add-behind : goal.overflow_add-behind
overflow_add-behind c =
    let stands : (4 ≤ c.args.n) × (c.args.at + 8 + c.args.n ≤ length c.args.area.now) =
    field_stands c.args.area.now c.args.at c.args.n c.requires in
    omega (arith, stands)

pub overflow_add-behind-2 : goal.overflow_add-behind-2
overflow_add-behind-2 c =
    let stands : (4 ≤ c.args.n) × (c.args.at + 8 + c.args.n ≤ length c.args.area.now) =
    field_stands c.args.area.now c.args.at c.args.n c.requires in
    omega (arith, stands)

pub bounds-area-behind : goal.bounds-area-behind
bounds-area-behind c =
    let stands : (4 ≤ c.args.n) × (c.args.at + 8 + c.args.n ≤ length c.args.area.now) =
    field_stands c.args.area.now c.args.at c.args.n c.requires in
    omega (arith, stands)

pub overflow_sub-result : goal.overflow_sub-result
overflow_sub-result c =
    let stands : (4 ≤ c.args.n) × (c.args.at + 8 + c.args.n ≤ length c.args.area.now) =
    field_stands c.args.area.now c.args.at c.args.n c.requires in
    omega (arith, stands)

pub returns-then-area-behind-eq0 : goal.returns-then-area-behind-eq0
returns-then-area-behind-eq0 c =
    omega (arith, field_ends c.args.area.now c.args.at c.args.n c.requires, nul_last c.args.area.now c.args.at c.args.n c.requires 4 (omega arith) (omega arith) c.if-area-behind-eq0.true)

pub bounds-area-behind-2 : goal.bounds-area-behind-2
bounds-area-behind-2 c =
    let stands : (4 ≤ c.args.n) × (c.args.at + 8 + c.args.n ≤ length c.args.area.now) =
    field_stands c.args.area.now c.args.at c.args.n c.requires in
    omega (arith, stands)

pub overflow_sub-result-then-area-behind-eq0-2 : goal.overflow_sub-result-then-area-behind-eq0-2
overflow_sub-result-then-area-behind-eq0-2 c =
    let stands : (4 ≤ c.args.n) × (c.args.at + 8 + c.args.n ≤ length c.args.area.now) =
    field_stands c.args.area.now c.args.at c.args.n c.requires in
    omega (arith, stands)

pub returns-then-area-behind-eq0-2 : goal.returns-then-area-behind-eq0-2
returns-then-area-behind-eq0-2 c =
    omega (arith, code_last c.args.area.now c.args.at c.args.n c.requires 4 (omega arith) (omega arith) c.if-area-behind-eq0.false, nul_last c.args.area.now c.args.at c.args.n c.requires 3 (omega arith) (omega arith) c.if-area-behind-eq0-2.true)

pub bounds-area-behind-3 : goal.bounds-area-behind-3
bounds-area-behind-3 c =
    let stands : (4 ≤ c.args.n) × (c.args.at + 8 + c.args.n ≤ length c.args.area.now) =
    field_stands c.args.area.now c.args.at c.args.n c.requires in
    omega (arith, stands)

pub overflow_sub-result-then-area-behind-eq0-3 : goal.overflow_sub-result-then-area-behind-eq0-3
overflow_sub-result-then-area-behind-eq0-3 c =
    let stands : (4 ≤ c.args.n) × (c.args.at + 8 + c.args.n ≤ length c.args.area.now) =
    field_stands c.args.area.now c.args.at c.args.n c.requires in
    omega (arith, stands)

pub returns-then-area-behind-eq0-3 : goal.returns-then-area-behind-eq0-3
returns-then-area-behind-eq0-3 c =
    omega (arith, code_last c.args.area.now c.args.at c.args.n c.requires 3 (omega arith) (omega arith) c.if-area-behind-eq0-2.false, nul_last c.args.area.now c.args.at c.args.n c.requires 2 (omega arith) (omega arith) c.if-area-behind-eq0-3.true)

pub overflow_sub-result-2 : goal.overflow_sub-result-2
overflow_sub-result-2 c =
    let stands : (4 ≤ c.args.n) × (c.args.at + 8 + c.args.n ≤ length c.args.area.now) =
    field_stands c.args.area.now c.args.at c.args.n c.requires in
    omega (arith, stands)

pub returns : goal.returns
returns c =
    omega (arith, code_last c.args.area.now c.args.at c.args.n c.requires 2 (omega arith) (omega arith) c.if-area-behind-eq0-3.false, field_ends c.args.area.now c.args.at c.args.n c.requires)

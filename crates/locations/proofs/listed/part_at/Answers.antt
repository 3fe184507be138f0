-- `listed::part_at` meets its contract.
use mathlib.Core.Path.{ap}
use Prim.Native.Nat.{ℕ, ◌+◌, ◌-◌, ◌≤◌}
use native.Mathlib.Omega.{arith}
use lib.ListN.{length}
use borrow.Author.Rules.{rules}
use Rattle.words.specs.Numbers.{be32}
use Rattle.indices.specs.Reading.{length_at}
use Rattle.indices.proofs.IndexLaws.{fine_inside}
use Rattle.locations.proofs.listed.part_at.Goals as goal

pub overflow_add-at : goal.overflow_add-at
unfolding length_at
overflow_add-at c =
    let room : 8 + be32 c.args.area.now (c.args.at + 4) ≤ length c.args.area.now - c.args.at =
    fine_inside c.args.area.now c.args.at c.requires in
    let inside = room in search rules

pub read_be32-n-requires : goal.read_be32-n-requires
unfolding length_at
read_be32-n-requires c =
    let room : 8 + be32 c.args.area.now (c.args.at + 4) ≤ length c.args.area.now - c.args.at =
    fine_inside c.args.area.now c.args.at c.requires in
    omega (arith, room)

pub overflow_add-result : goal.overflow_add-result
unfolding length_at
overflow_add-result c =
    let room : 8 + be32 c.args.area.now (c.args.at + 4) ≤ length c.args.area.now - c.args.at =
    fine_inside c.args.area.now c.args.at c.requires in
    let inside = room in search rules

pub code_length-requires : goal.code_length-requires
unfolding length_at
code_length-requires c =
    (c.read_be32-n.ensures, c.requires)

pub returns : goal.returns
returns c =
    ap (λ (n : ℕ). record { start = c.args.at + 8; length = n }) c.code_length.ensures

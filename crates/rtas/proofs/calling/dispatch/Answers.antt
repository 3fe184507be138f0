-- `calling::dispatch` meets its contract.
use mathlib.Core.Bool.{true}
use mathlib.Core.Path.{◌≡◌, sym, ap, ◌∙◌}
use Prim.Native.Nat.{◌≤◌}
use native.Mathlib.Omega.{arith}
use lib.ListN.{length}
use Rattle.calls.proofs.Heads.{Whole, whole_buffer, asked}
use Rattle.calls.specs.Buffer.{is_nodes, is_indices, is_dump, is_properties, Found, found}
use Rattle.calls.specs.Status.{is_given}
use Rattle.rtas.proofs.Works.{worked_nodes, worked_indices, worked_dump, worked_properties, worked_none}
use Rattle.rtas.proofs.calling.dispatch.Goals as goal

pub asks_for-requires : goal.asks_for-requires
asks_for-requires c =
    let whole : Whole c.args.args.now =
    whole_buffer c.args.args.now (ap is_given c.requires) in
    omega (arith, whole.size)

pub read_be32-address-requires : goal.read_be32-address-requires
read_be32-address-requires c =
    let whole : Whole c.args.args.now =
    whole_buffer c.args.args.now (ap is_given c.requires) in
    let nodes_yes : is_nodes c.args.args.now ≡ true =
    sym c.asks_for.ensures ∙ c.if-asks_for.true in
    let two_inside : 24 ≤ length c.args.args.now =
    omega (arith, whole.size, asked 1 2 1 c.args.args.now (nodes_yes)) in
    omega (arith, two_inside)

pub read_be32-scope-requires : goal.read_be32-scope-requires
read_be32-scope-requires c =
    let whole : Whole c.args.args.now =
    whole_buffer c.args.args.now (ap is_given c.requires) in
    let nodes_yes : is_nodes c.args.args.now ≡ true =
    sym c.asks_for.ensures ∙ c.if-asks_for.true in
    let two_inside : 24 ≤ length c.args.args.now =
    omega (arith, whole.size, asked 1 2 1 c.args.args.now (nodes_yes)) in
    omega (arith, two_inside)

pub returns-then-asks_for : goal.returns-then-asks_for
returns-then-asks_for c =
    let entry : Found =
    found c.args.args.now c.args.memory.now c.args.journal.now c.args.inventory.now c.args.edition c.args.registration c.args.reading in
    let nodes_yes : is_nodes c.args.args.now ≡ true =
    sym c.asks_for.ensures ∙ c.if-asks_for.true in
    let told_0 = rw (c.read_be32-address.ensures, c.read_be32-scope.ensures) at c.update_nodes-status.ensures.value in
    let told_1 = rw (c.read_be32-address.ensures, c.read_be32-scope.ensures) at c.update_nodes-status.ensures.memory_after in
    worked_nodes (entry) _ _ (nodes_yes) told_0 told_1

pub asks_for-requires-2 : goal.asks_for-requires-2
asks_for-requires-2 c =
    let whole : Whole c.args.args.now =
    whole_buffer c.args.args.now (ap is_given c.requires) in
    omega (arith, whole.size)

pub list_indices-indexed-requires : goal.list_indices-indexed-requires
list_indices-indexed-requires c =
    let whole : Whole c.args.args.now =
    whole_buffer c.args.args.now (ap is_given c.requires) in
    let indices_yes : is_indices c.args.args.now ≡ true =
    sym c.asks_for-2.ensures ∙ c.if-asks_for-2.true in
    omega (arith, whole.size, asked 2 5 2 c.args.args.now (indices_yes))

pub returns-then-asks_for-2 : goal.returns-then-asks_for-2
returns-then-asks_for-2 c =
    let entry : Found =
    found c.args.args.now c.args.memory.now c.args.journal.now c.args.inventory.now c.args.edition c.args.registration c.args.reading in
    let indices_yes : is_indices c.args.args.now ≡ true =
    sym c.asks_for-2.ensures ∙ c.if-asks_for-2.true in
    worked_indices (entry) _ _ _ _ (indices_yes) c.list_indices-indexed.ensures

pub asks_for-requires-3 : goal.asks_for-requires-3
asks_for-requires-3 c =
    let whole : Whole c.args.args.now =
    whole_buffer c.args.args.now (ap is_given c.requires) in
    omega (arith, whole.size)

pub read_be32-command-requires : goal.read_be32-command-requires
read_be32-command-requires c =
    let whole : Whole c.args.args.now =
    whole_buffer c.args.args.now (ap is_given c.requires) in
    let dump_yes : is_dump c.args.args.now ≡ true =
    sym c.asks_for-3.ensures ∙ c.if-asks_for-3.true in
    let three_inside : 28 ≤ length c.args.args.now =
    omega (arith, whole.size, asked 3 3 1 c.args.args.now (dump_yes)) in
    omega (arith, three_inside)

pub read_be32-address-requires-then-asks_for-3 : goal.read_be32-address-requires-then-asks_for-3
read_be32-address-requires-then-asks_for-3 c =
    let whole : Whole c.args.args.now =
    whole_buffer c.args.args.now (ap is_given c.requires) in
    let dump_yes : is_dump c.args.args.now ≡ true =
    sym c.asks_for-3.ensures ∙ c.if-asks_for-3.true in
    let three_inside : 28 ≤ length c.args.args.now =
    omega (arith, whole.size, asked 3 3 1 c.args.args.now (dump_yes)) in
    omega (arith, three_inside)

pub read_be32-len-requires : goal.read_be32-len-requires
read_be32-len-requires c =
    let whole : Whole c.args.args.now =
    whole_buffer c.args.args.now (ap is_given c.requires) in
    let dump_yes : is_dump c.args.args.now ≡ true =
    sym c.asks_for-3.ensures ∙ c.if-asks_for-3.true in
    let three_inside : 28 ≤ length c.args.args.now =
    omega (arith, whole.size, asked 3 3 1 c.args.args.now (dump_yes)) in
    omega (arith, three_inside)

pub returns-then-asks_for-3 : goal.returns-then-asks_for-3
returns-then-asks_for-3 c =
    let entry : Found =
    found c.args.args.now c.args.memory.now c.args.journal.now c.args.inventory.now c.args.edition c.args.registration c.args.reading in
    let dump_yes : is_dump c.args.args.now ≡ true =
    sym c.asks_for-3.ensures ∙ c.if-asks_for-3.true in
    let told = rw (c.read_be32-command.ensures, c.read_be32-address-then-asks_for-3.ensures, c.read_be32-len.ensures) at c.configure_kernel_dump-configured.ensures in
    worked_dump (entry) _ _ (dump_yes) told.0 told.1

pub asks_for-requires-4 : goal.asks_for-requires-4
asks_for-requires-4 c =
    let whole : Whole c.args.args.now =
    whole_buffer c.args.args.now (ap is_given c.requires) in
    omega (arith, whole.size)

pub read_be32-address-requires-then-asks_for-4 : goal.read_be32-address-requires-then-asks_for-4
read_be32-address-requires-then-asks_for-4 c =
    let whole : Whole c.args.args.now =
    whole_buffer c.args.args.now (ap is_given c.requires) in
    let properties_yes : is_properties c.args.args.now ≡ true =
    sym c.asks_for-4.ensures ∙ c.if-asks_for-4.true in
    let properties_inside : 24 ≤ length c.args.args.now =
    omega (arith, whole.size, asked 4 2 1 c.args.args.now (properties_yes)) in
    omega (arith, properties_inside)

pub read_be32-scope-requires-then-asks_for-4 : goal.read_be32-scope-requires-then-asks_for-4
read_be32-scope-requires-then-asks_for-4 c =
    let whole : Whole c.args.args.now =
    whole_buffer c.args.args.now (ap is_given c.requires) in
    let properties_yes : is_properties c.args.args.now ≡ true =
    sym c.asks_for-4.ensures ∙ c.if-asks_for-4.true in
    let properties_inside : 24 ≤ length c.args.args.now =
    omega (arith, whole.size, asked 4 2 1 c.args.args.now (properties_yes)) in
    omega (arith, properties_inside)

pub returns-then-asks_for-4 : goal.returns-then-asks_for-4
returns-then-asks_for-4 c =
    let entry : Found =
    found c.args.args.now c.args.memory.now c.args.journal.now c.args.inventory.now c.args.edition c.args.registration c.args.reading in
    let properties_yes : is_properties c.args.args.now ≡ true =
    sym c.asks_for-4.ensures ∙ c.if-asks_for-4.true in
    let told_0 = rw (c.read_be32-address-then-asks_for-4.ensures, c.read_be32-scope-then-asks_for-4.ensures) at c.update_properties-status.ensures.value in
    let told_1 = rw (c.read_be32-address-then-asks_for-4.ensures, c.read_be32-scope-then-asks_for-4.ensures) at c.update_properties-status.ensures.memory_after in
    worked_properties (entry) _ _ (properties_yes) told_0 told_1

pub returns : goal.returns
returns c =
    let entry : Found =
    found c.args.args.now c.args.memory.now c.args.journal.now c.args.inventory.now c.args.edition c.args.registration c.args.reading in
    worked_none (entry) (sym c.asks_for.ensures ∙ c.if-asks_for.false)
    (sym c.asks_for-2.ensures ∙ c.if-asks_for-2.false) (sym c.asks_for-3.ensures ∙ c.if-asks_for-3.false) (sym c.asks_for-4.ensures ∙ c.if-asks_for-4.false)

-- `calling::call_step` meets its contract.
use mathlib.Core.Bool.{true}
use mathlib.Core.Path.{◌≡◌, sym, ap, ◌∙◌}
use Prim.Native.Nat.{◌+◌, ◌*◌}
use native.Mathlib.Omega.{arith}
use Rattle.calls.proofs.Claims.{call_claims}
use Rattle.calls.proofs.Heads.{Whole, whole_buffer, given_number, unchanged}
use Rattle.rtas.proofs.Works.{call_leaves}
use Rattle.calls.specs.Buffer.{number_for, status_at, Found, found}
use Rattle.calls.specs.declared.status.Number.TheVariants.{Given}
use Rattle.calls.specs.Status.{is_given}
use Rattle.rtas.proofs.calling.call_step.Goals as goal

pub returns-then-not-is_given : goal.returns-then-not-is_given
returns-then-not-is_given c =
    let entry : Found =
    found c.args.args.now c.args.memory.now c.args.journal.now c.args.inventory.now c.args.edition c.args.registration c.args.reading in
    let given : c.is_given.result ≡ is_given (number_for c.args.args.now) =
    c.is_given.ensures ∙ ap is_given c.number_for-number.ensures in
    record { reading_after = rw c.number_for-number.ensures (sym (unchanged (entry) (sym (given) ∙ c.if-not-is_given.true))); claims = call_claims }

pub read_be32-inputs-requires : goal.read_be32-inputs-requires
read_be32-inputs-requires c =
    let given : c.is_given.result ≡ is_given (number_for c.args.args.now) =
    c.is_given.ensures ∙ ap is_given c.number_for-number.ensures in
    let yes : is_given (number_for c.args.args.now) ≡ true =
    sym (given) ∙ c.if-not-is_given.false in
    let whole : Whole c.args.args.now =
    whole_buffer _ (yes) in
    omega (arith, whole.size)

pub dispatch-work-requires : goal.dispatch-work-requires
dispatch-work-requires c =
    let number_is : c.number_for-number.result ≡ Given =
    given_number _ (sym c.is_given.ensures ∙ c.if-not-is_given.false) in
    sym c.number_for-number.ensures ∙ number_is

pub store_be32-requires : goal.store_be32-requires
store_be32-requires c =
    let given : c.is_given.result ≡ is_given (number_for c.args.args.now) =
    c.is_given.ensures ∙ ap is_given c.number_for-number.ensures in
    let yes : is_given (number_for c.args.args.now) ≡ true =
    sym (given) ∙ c.if-not-is_given.false in
    let whole : Whole c.args.args.now =
    whole_buffer _ (yes) in
    omega (arith, whole, c.read_be32-inputs.ensures, c.dispatch-work.auto.args)

pub returns : goal.returns
returns c =
    let entry : Found =
    found c.args.args.now c.args.memory.now c.args.journal.now c.args.inventory.now c.args.edition c.args.registration c.args.reading in
    let given : c.is_given.result ≡ is_given (number_for c.args.args.now) =
    c.is_given.ensures ∙ ap is_given c.number_for-number.ensures in
    let yes : is_given (number_for c.args.args.now) ≡ true =
    sym (given) ∙ c.if-not-is_given.false in
    let number_is : c.number_for-number.result ≡ Given =
    given_number _ (sym c.is_given.ensures ∙ c.if-not-is_given.false) in
    let start = entry in
    let place : 12 + 4 * c.read_be32-inputs.result ≡ status_at start.args = omega (arith, c.read_be32-inputs.ensures) in
    record { reading_after = call_leaves start _ _ _ _ _ _ _ _ _ (yes) (number_is) c.dispatch-work.ensures place c.from.ensures c.store_be32.ensures; claims = call_claims }

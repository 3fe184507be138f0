-- The registration that a call hands back.
use Prim.Native.Nat.{◌≤◌}
use Rattle.words.proofs.Choice.{choose}
use Rattle.dump.proofs.Verdicts.{registration_short}
use Rattle.calls.specs.Status.{is_given}
use Rattle.calls.specs.Buffer.{input, Outcome, nodes_outcome, indices_outcome, dump_outcome, properties_outcome, number_for, Found, Left, call_of}
use Rattle.calls.proofs.Heads.{outcome_ways}

-- no call makes a length above the copy's
pub handed_short : (c : Found) → c.registration.len ≤ 512 → (call_of c).registration.len ≤ 512
unfolding call_of nodes_outcome indices_outcome dump_outcome properties_outcome
handed_short c h =
    choose (is_given (number_for c.args)) (λ (x : Left). x.registration.len ≤ 512)
    (λ _. outcome_ways c (λ (o : Outcome). o.registration.len ≤ 512) (λ _. h) (λ _. h)
    (λ _. registration_short c.memory (input c.args 0) (input c.args 1) (input c.args 2) c.registration h)
    (λ _. h) h)
    (λ _. h)

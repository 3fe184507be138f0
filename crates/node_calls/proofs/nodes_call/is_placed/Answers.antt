-- `nodes_call::is_placed` meets its contract.
use borrow.Author.Tests.{eq-eqb, ne_eqb}
use Rattle.calls.specs.UpdateNodes.{placed}
use Rattle.node_calls.proofs.nodes_call.is_placed.Goals as goal

pub returns-then-address-eq0 : goal.returns-then-address-eq0
unfolding placed
returns-then-address-eq0 c =
    rw (eq-eqb _ _ c.if-address-eq0.true)

pub returns-else-address-eq0 : goal.returns-else-address-eq0
unfolding placed
returns-else-address-eq0 c =
    rw (ne_eqb _ _ c.if-address-eq0.false)

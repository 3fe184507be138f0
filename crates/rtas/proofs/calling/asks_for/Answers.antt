-- `calling::asks_for` meets its contract.
use borrow.Author.Tests.{eq-eqb, ne_eqb}
use Rattle.calls.specs.Buffer.{asks}
use Rattle.rtas.proofs.calling.asks_for.Goals as goal

pub returns-then-i-inputs : goal.returns-then-i-inputs
unfolding asks
returns-then-i-inputs c =
    rw (← c.read_be32-t.ensures, ← c.read_be32-i.ensures, ← c.read_be32-o.ensures, eq-eqb _ _ c.if-t-token.true, eq-eqb _ _ c.if-i-inputs.true)

pub returns-else-i-inputs : goal.returns-else-i-inputs
unfolding asks
returns-else-i-inputs c =
    rw (← c.read_be32-t.ensures, ← c.read_be32-i.ensures, ← c.read_be32-o.ensures, eq-eqb _ _ c.if-t-token.true, ne_eqb _ _ c.if-i-inputs.false)

pub returns-else-t-token : goal.returns-else-t-token
unfolding asks
returns-else-t-token c =
    rw (← c.read_be32-t.ensures, ← c.read_be32-i.ensures, ← c.read_be32-o.ensures, ne_eqb _ _ c.if-t-token.false)

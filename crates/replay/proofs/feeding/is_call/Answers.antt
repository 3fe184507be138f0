-- `feeding::is_call` meets its contract.
use Rattle.replay.proofs.feeding.is_call.Goals as goal

pub returns-then-waits : goal.returns-then-waits
returns-then-waits c =
    rw c.if-waits.true

pub returns-else-waits : goal.returns-else-waits
returns-else-waits c =
    rw c.if-waits.false

-- `consistent::is_consistent` meets its contract.
use Rattle.totals.specs.Consistent.{consistent}
use Rattle.totals.proofs.Agreeing.{consistent_claims}
use Rattle.totals.proofs.consistent.is_consistent.Goals as goal

pub returns-then-calls_agree : goal.returns-then-calls_agree
unfolding consistent
returns-then-calls_agree c =
    record { value = rw (← c.calls_agree.ensures, ← c.words_agree.ensures, c.if-calls_agree.true); claims = consistent_claims }

pub returns-else-calls_agree : goal.returns-else-calls_agree
unfolding consistent
returns-else-calls_agree c =
    record { value = rw (← c.calls_agree.ensures, c.if-calls_agree.false); claims = consistent_claims }

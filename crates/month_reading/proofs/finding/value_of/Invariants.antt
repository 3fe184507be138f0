use Rattle.month_reading.proofs.Searches.{Valued}
use Rattle.month_reading.proofs.finding.value_of.Given as goal

abbrev pub invariant-loop-b : goal.invariant-loop-b
invariant-loop-b l = Valued l.digits l.value l.b-index

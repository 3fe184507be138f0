-- `finding::line_length` meets its contract.
use Rattle.month_reading.proofs.Searches.{Lined}
use Rattle.month_reading.proofs.finding.line_length.Given as goal

abbrev pub invariant-loop-i : goal.invariant-loop-i
invariant-loop-i l = Lined l.text l.i

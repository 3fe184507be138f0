-- `judging::read_rows` meets its contract.
use Rattle.month_reading.proofs.Turns.{Turned}
use Rattle.month_reading.proofs.judging.read_rows.Given as goal

abbrev pub invariant-loop-p : goal.invariant-loop-p
invariant-loop-p l = Turned l.text l.figures l.at l.p

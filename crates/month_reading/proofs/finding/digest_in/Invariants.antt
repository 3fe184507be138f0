use Rattle.month_reading.proofs.Digests.{Made}
use Rattle.month_reading.proofs.finding.digest_in.Given as goal

abbrev pub invariant-loop-i : goal.invariant-loop-i
invariant-loop-i l = Made l.text l.digest l.i

-- `reading::store_digests` meets its contract.
use Rattle.month_reading.proofs.Digests.{Stored}
use Rattle.month_reading.proofs.reading.store_digests.Given as goal

abbrev pub invariant-loop-k : goal.invariant-loop-k
invariant-loop-k l = Stored l.initial.digests l.digests l.rows l.k

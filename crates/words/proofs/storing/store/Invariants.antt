use Rattle.words.proofs.Stores.{Storing}
use Rattle.words.proofs.storing.store.Given as goal

abbrev pub invariant-loop-i : goal.invariant-loop-i
invariant-loop-i l = Storing l.initial.s l.at l.bytes l.i l.s

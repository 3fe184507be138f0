-- `reading_indices::store_sets` meets its contract.
use Rattle.readers.proofs.IndexWords.{Storing}
use Rattle.readers.proofs.reading_indices.store_sets.Given as goal

abbrev pub invariant-loop-i : goal.invariant-loop-i
invariant-loop-i l = Storing l.area l.initial.out l.count l.out l.at l.i

-- `reading_properties::store_properties` meets its contract.
use Rattle.readers.proofs.PropertyWords.{Storing}
use Rattle.readers.proofs.reading_properties.store_properties.Given as goal

abbrev pub invariant-loop-i : goal.invariant-loop-i
invariant-loop-i l = Storing l.area l.initial.out l.count l.out l.at l.i

-- `reading_nodes::store_singles` meets its contract.
use Rattle.readers.proofs.NodeWords.{Partly}
use Rattle.readers.proofs.reading_nodes.store_singles.Given as goal

abbrev pub invariant-loop-i : goal.invariant-loop-i
invariant-loop-i l = Partly l.area l.initial.out 4 (λ k. k) l.at l.code l.n l.to l.out l.i

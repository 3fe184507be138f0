-- `reading_nodes::store_pairs` meets its contract.
use Prim.Native.Nat.{◌+◌}
use Rattle.readers.proofs.NodeWords.{Partly}
use Rattle.readers.proofs.reading_nodes.store_pairs.Given as goal

abbrev pub invariant-loop-i : goal.invariant-loop-i
invariant-loop-i l = Partly l.area l.initial.out 8 (λ k. k + k) l.at 3 l.n l.to l.out l.i

-- `area::words_in` meets its contract.
use Prim.Native.Nat.{◌-◌}
use Rattle.counting.proofs.UsedWords.{Passed}
use Rattle.counting.proofs.area.words_in.Given as goal

abbrev pub invariant-loop-at : goal.invariant-loop-at
invariant-loop-at l = Passed l.area l.at

abbrev pub decreases-loop-at : goal.decreases-loop-at
decreases-loop-at l = 4096 - l.at

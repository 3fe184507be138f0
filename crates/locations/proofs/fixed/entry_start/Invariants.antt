-- `fixed::entry_start` meets its contract.
use Rattle.locations.proofs.NulLaws.{Seeks}
use Rattle.locations.proofs.fixed.entry_start.Given as goal

abbrev pub invariant-loop-left : goal.invariant-loop-left
invariant-loop-left l = Seeks l.fixed l.index l.at l.left

abbrev pub decreases-loop-left : goal.decreases-loop-left
decreases-loop-left l = l.left

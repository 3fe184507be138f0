-- `weights::fill_weights` meets its contract.
use Rattle.std.proofs.Common.{◌-◌}
use Rattle.scanning.proofs.WeightLaws.{Filled}
use Rattle.scanning.proofs.weights.fill_weights.Given as goal

abbrev pub invariant-loop-i : goal.invariant-loop-i
invariant-loop-i l = Filled l.row l.table l.i

abbrev pub decreases-loop-i : goal.decreases-loop-i
decreases-loop-i l = 160 - l.i

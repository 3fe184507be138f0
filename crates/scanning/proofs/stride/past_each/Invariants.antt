-- `stride::past_each` meets its contract.
use Rattle.std.proofs.Common.{◌-◌, ◌≤◌, length}
use Rattle.scanning.specs.Inner.Terms.{Reached}
use Rattle.scanning.proofs.Reaching.{position}
use Rattle.scanning.proofs.stride.past_each.Given as goal

abbrev pub invariant-loop-at : goal.invariant-loop-at
invariant-loop-at l = Reached l.selection l.j (position l.at l.counts) × (l.initial.at ≤ l.at)

abbrev pub decreases-loop-at : goal.decreases-loop-at
decreases-loop-at l = length l.j - l.at

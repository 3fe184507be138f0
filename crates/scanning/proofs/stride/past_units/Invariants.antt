-- `stride::past_units` meets its contract.
use Rattle.std.proofs.Common.{◌+◌, ◌-◌, ◌*◌, ◌≤◌}
use Rattle.journal.specs.Terms.{tallied}
use Rattle.scanning.specs.Inner.Terms.{Reached}
use Rattle.scanning.proofs.Reaching.{position}
use Rattle.scanning.proofs.stride.past_units.Given as goal

abbrev pub invariant-loop-at : goal.invariant-loop-at
invariant-loop-at l = Reached l.selection l.j
    (position l.at (l.from.counts + l.weight * tallied l.selection.units l.passed l.same)) × (l.from.at ≤ l.at) × (l.passed ≤ l.at) × (l.same ≤ l.at)

abbrev pub decreases-loop-at : goal.decreases-loop-at
decreases-loop-at l = l.limit - l.at

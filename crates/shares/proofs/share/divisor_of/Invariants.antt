-- `share::divisor_of` meets its contract.
use mathlib.Core.Path.{◌≡◌}
use Rattle.shares.specs.Share.{divisor}
use Rattle.shares.proofs.share.divisor_of.Given as goal

abbrev pub invariant-loop-y : goal.invariant-loop-y
invariant-loop-y l = divisor l.x l.y ≡ divisor l.a l.b

abbrev pub decreases-loop-y : goal.decreases-loop-y
decreases-loop-y l = l.y

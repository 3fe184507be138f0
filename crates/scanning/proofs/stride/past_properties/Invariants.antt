-- `stride::past_properties` meets its contract.
use Rattle.std.proofs.Common.{ℕ, ◌-◌, ◌≤◌, List, length}
use Rattle.journal.specs.Scope.{Selection}
use Rattle.scanning.specs.Inner.Terms.{Reached}
use Rattle.scanning.proofs.Reaching.{position}
use Rattle.scanning.proofs.stride.past_properties.Given as goal

-- a scan that came to the first place comes to this one
pub record Going (j : List ℕ) (from at : ℕ) : Type 0 where
  pub inside : at ≤ length j
  pub onward : from ≤ at
  pub reached : (sel : Selection) (counts : ℕ) → Reached sel j (position from counts) → Reached sel j (position at counts)

abbrev pub invariant-loop-at : goal.invariant-loop-at
invariant-loop-at l = Going l.j l.from l.at

abbrev pub decreases-loop-at : goal.decreases-loop-at
decreases-loop-at l = length l.j - l.at

-- `stride::past_same` meets its contract.
use Rattle.std.proofs.Common.{◌≡◌, ℕ, ◌-◌, ◌*◌, ◌≤◌, List, length}
use Rattle.records.specs.Records.{size_limit}
use Rattle.scanning.specs.declared.stride.Same.{Same}
use Rattle.journal.specs.Scope.{Selection}
use Rattle.scanning.specs.Inner.Terms.{Reached, Known}
use Rattle.scanning.proofs.Reaching.{position}
use Rattle.scanning.proofs.stride.past_same.Given as goal

-- whatever is asked for: a scan that came to the first place has come to the second
abbrev pub Past : List ℕ → Same → ℕ → ℕ → ℕ → ℕ → Type 0
Past j same at₀ counts₀ at counts = (sel : Selection) → length j ≤ size_limit → Known sel j same → Reached sel j (position at₀ counts₀) → Reached sel j (position at counts)

abbrev pub invariant-loop-at : goal.invariant-loop-at
invariant-loop-at l = Past l.j l.same l.initial.at l.initial.counts l.at l.counts × (l.initial.at ≤ l.at) × (l.four ≡ 4 * l.same.size)

abbrev pub decreases-loop-at : goal.decreases-loop-at
decreases-loop-at l = l.limit - l.at

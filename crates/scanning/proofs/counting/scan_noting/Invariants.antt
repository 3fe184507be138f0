-- `counting::scan_noting` meets its contract.
use Rattle.std.proofs.Common.{◌-◌, length}
use Rattle.scanning.proofs.Reaching.{position}
use Rattle.journal.specs.Marks.{Marked}
use Rattle.scanning.specs.Inner.Terms.{Reached}
use Rattle.scanning.proofs.counting.scan_noting.Given as goal

abbrev pub invariant-loop-at : goal.invariant-loop-at
invariant-loop-at l = Reached l.selection l.j (position l.at l.counts) × Marked l.selection l.j l.marks

abbrev pub decreases-loop-at : goal.decreases-loop-at
decreases-loop-at l = length l.j - l.at

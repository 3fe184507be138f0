-- `scanning::scan` meets its contract.
use Prim.Native.Nat.{◌-◌}
use lib.ListN.{length}
use Rattle.inventory.proofs.Entries.{Scanned}
use Rattle.inventory.proofs.scanning.scan.Given as goal

abbrev pub invariant-loop-at : goal.invariant-loop-at
invariant-loop-at l = Scanned l.wanted.flag l.wanted.item_type l.number.0 l.inventory l.at l.count l.due

abbrev pub decreases-loop-at : goal.decreases-loop-at
decreases-loop-at l = length l.inventory - l.at

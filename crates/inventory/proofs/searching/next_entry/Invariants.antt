-- `searching::next_entry` meets its contract.
use Prim.Native.Nat.{◌-◌}
use lib.ListN.{length}
use Rattle.inventory.proofs.Search.{Sought}
use Rattle.inventory.proofs.searching.next_entry.Given as goal

abbrev pub invariant-loop-wanted : goal.invariant-loop-wanted
invariant-loop-wanted l = Sought l.wanted.flag l.wanted.item_type l.inventory l.from l.at

abbrev pub decreases-loop-wanted : goal.decreases-loop-wanted
decreases-loop-wanted l = length l.inventory - l.at

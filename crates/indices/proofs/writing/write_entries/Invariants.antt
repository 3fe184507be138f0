-- `writing::write_entries` meets its contract.
use Prim.Native.Nat.{◌-◌}
use lib.ListN.{length}
use Rattle.inventory.specs.Claims.Scanning.{ahead}
use Rattle.indices.specs.Area.{fitting}
use Rattle.indices.proofs.Writes.{Writing}
use Rattle.indices.proofs.writing.write_entries.Given as goal

abbrev pub invariant-loop-handed : goal.invariant-loop-handed
invariant-loop-handed l = Writing l.initial.area (fitting (length l.initial.area - 4) (ahead l.wanted.flag l.wanted.item_type l.inventory l.from)) l.wanted.flag l.wanted.item_type l.count l.inventory l.area l.at l.to l.handed

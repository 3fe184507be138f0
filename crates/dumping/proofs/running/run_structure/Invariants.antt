-- `running::run_structure` meets its contract.
use Prim.Native.Nat.{◌+◌, ◌*◌, ◌-◌}
use Rattle.dump.specs.Structure.{section_size}
use Rattle.dumping.proofs.Runs.{Going}
use Rattle.dumping.proofs.running.run_structure.Given as goal

abbrev pub invariant-loop-k : goal.invariant-loop-k
invariant-loop-k l = Going l.platform l.initial.memory l.initial.copy l.memory l.copy (l.first + section_size * l.k) (l.sections - l.k) l.failed

-- `walking::find` meets its contract.
use Prim.Native.Nat.{◌-◌}
use lib.ListN.{length}
use Rattle.journal.specs.Journal.{number}
use Rattle.journal.specs.Marks.{Resumes}
use Rattle.journal.proofs.walking.find.Given as goal

abbrev pub invariant-loop-skip : goal.invariant-loop-skip
invariant-loop-skip l = Resumes l.selection l.j (number l.opcode) l.k l.at l.skip

abbrev pub decreases-loop-skip : goal.decreases-loop-skip
decreases-loop-skip l = length l.j - l.at

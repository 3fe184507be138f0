-- `writing::write_each` meets its contract.
use mathlib.Core.Path.{◌≡◌}
use Prim.Native.Nat.{◌-◌, ◌*◌}
use lib.ListN.{length}
use lib.Seq.{sets}
use Rattle.journal.specs.Scope.{asking}
use Rattle.journal.specs.Journal.{number}
use Rattle.nodes.proofs.Writes.{Writing}
use Rattle.nodes.specs.Inner.Writing.{width, due_words}
use Rattle.words.specs.Numbers.{word_bytes}
use Rattle.nodes.proofs.writing.write_each.Given as goal

abbrev pub invariant-loop-due : goal.invariant-loop-due
invariant-loop-due l = let aim = sets l.initial.area l.initial.to (word_bytes (due_words (asking l.row l.units) l.j (number l.opcode) l.from l.initial.due)) in
    Writing aim (asking l.row l.units) l.j (number l.opcode) l.area l.at l.to l.due × (length l.area ≡ length l.initial.area) × (l.step ≡ 4 * width (number l.opcode))

abbrev pub decreases-loop-due : goal.decreases-loop-due
decreases-loop-due l = length l.j - l.at

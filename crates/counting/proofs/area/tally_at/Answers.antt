-- `area::tally_at` meets its contract.
use mathlib.Core.Path.{◌∙◌}
use native.Mathlib.Omega.{arith}
use lib.ListN.{length-take, length-drop}
use Rattle.calls.specs.Lent.{part_at}
use Rattle.calls.proofs.Memory.{part_lent}
use Rattle.counting.proofs.Tallies.{tally_short}
use Rattle.counting.proofs.area.tally_at.Goals as goal

pub returns-then-memory-at : goal.returns-then-memory-at
unfolding part_at
returns-then-memory-at c =
    c.no_tally.ensures ∙ tally_short c.args.scope (part_at c.args.memory.now c.args.address 4096) (λ e. omega (arith, simp (length-take, length-drop) at e))

pub returns : goal.returns
returns c =
    c.tally_in.ensures ∙ rw (part_lent c.args.memory.now c.args.address 4096 (omega arith))

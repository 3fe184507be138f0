-- `counts::calls_counted` meets its contract.
use mathlib.Core.Path.{◌≡◌}
use Prim.Native.Nat.{◌<◌}
use Rattle.counting.specs.Figures.{sum_of}
use Rattle.replay_states.proofs.counts.calls_counted.Given as goal

abbrev pub invariant-loop-i : goal.invariant-loop-i
invariant-loop-i l = (l.sum ≡ sum_of l.i l.rows) × (l.sum < 0x1_0000_0000)

-- `bursts::pass` meets its contract.
use Prim.Native.Nat.{◌-◌}
use lib.ListN.{length}
use Rattle.intake.proofs.Standings.{Passing}
use Rattle.intake.proofs.bursts.pass.Given as goal

abbrev pub invariant-loop-place : goal.invariant-loop-place
invariant-loop-place l = Passing l.initial.buffer (record { place = l.initial.place; at = l.initial.at }) l.bytes l.buffer l.place l.at

abbrev pub decreases-loop-place : goal.decreases-loop-place
decreases-loop-place l = length l.bytes - l.at

-- `feeding::pass` meets its contract.
use Prim.Native.Nat.{◌-◌}
use lib.ListN.{length}
use Rattle.playing.specs.Played.{platform_of}
use Rattle.replay.proofs.Standings.{Passing}
use Rattle.replay.proofs.feeding.pass.Given as goal

abbrev pub invariant-loop-playing : goal.invariant-loop-playing
invariant-loop-playing l = Passing (platform_of l.journal l.inventory l.initial.playing) l.initial.args l.initial.memory l.bytes (record { playing = l.initial.playing; at = l.initial.at; counts = l.initial.counts }) l.args l.memory l.playing l.counts l.at

abbrev pub decreases-loop-playing : goal.decreases-loop-playing
decreases-loop-playing l = length l.bytes - l.at

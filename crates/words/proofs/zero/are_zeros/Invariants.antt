-- `zero::are_zeros` meets its contract.
use mathlib.Core.Bool.{◌&&◌}
use mathlib.Core.Path.{◌≡◌}
use lib.Dec.{eqb}
use lib.ListN.{drop}
use Rattle.words.specs.Numbers.{zeros}
use Rattle.words.proofs.zero.are_zeros.Given as goal

abbrev pub invariant-loop-i : goal.invariant-loop-i
invariant-loop-i l = (eqb l.largest 0 && zeros (drop l.i l.bytes)) ≡ zeros l.bytes

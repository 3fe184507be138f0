-- `consistent::is_sum` meets its contract.
use mathlib.Core.Path.{◌≡◌}
use lib.Dec.{eqb}
use lib.ListN.{drop}
use Rattle.std.specs.Prelude.{sum}
use Rattle.totals.proofs.consistent.is_sum.Given as goal

abbrev pub invariant-loop-figure : goal.invariant-loop-figure
invariant-loop-figure l = eqb l.rest (sum (drop l.figure-index l.figures)) ≡ eqb l.whole (sum l.figures)

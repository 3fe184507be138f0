-- `adding::add` meets its contract.
use Rattle.totals.proofs.Sums.{Adding}
use Rattle.totals.proofs.adding.add.Given as goal

abbrev pub invariant-loop-i : goal.invariant-loop-i
invariant-loop-i l = Adding l.fn.totals.figures l.more.figures l.sums l.i

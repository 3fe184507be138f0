-- `draugsten_bench_search` meets its contract.
use Rattle.std.proofs.Common.{◌-◌}
use Rattle.bench.proofs.Searching.{Walked}
use Rattle.bench.proofs.draugsten_bench_search.Given as goal

abbrev pub invariant-loop-passed : goal.invariant-loop-passed
invariant-loop-passed l = Walked l.flag l.item_type l.inventory l.at (l.count - l.passed) l.last

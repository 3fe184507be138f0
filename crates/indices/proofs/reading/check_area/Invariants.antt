-- `reading::check_area` meets its contract.
use Rattle.indices.proofs.IndexLaws.{Stands}
use Rattle.indices.proofs.reading.check_area.Given as goal

abbrev pub invariant-loop-passed : goal.invariant-loop-passed
invariant-loop-passed l = Stands l.area l.count l.at l.passed

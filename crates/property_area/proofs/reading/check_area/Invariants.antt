-- `reading::check_area` meets its contract.
use Rattle.property_area.proofs.PropertyLaws.{Stands}
use Rattle.property_area.proofs.reading.check_area.Given as goal

abbrev pub invariant-loop : goal.invariant-loop
invariant-loop l = Stands l.area l.count l.at l.counter

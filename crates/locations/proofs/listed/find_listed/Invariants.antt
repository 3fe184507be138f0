-- `listed::find_listed` meets its contract.
use Rattle.locations.proofs.Listings.{Sought}
use Rattle.locations.proofs.listed.find_listed.Given as goal

abbrev pub invariant-loop-passed : goal.invariant-loop-passed
invariant-loop-passed l = Sought l.area l.index l.count l.at l.passed l.found

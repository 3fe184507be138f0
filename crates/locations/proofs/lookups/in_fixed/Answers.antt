-- `lookups::in_fixed` meets its contract.
use borrow.Author.Tests.{eq-eqb, ne_eqb}
use Rattle.locations.specs.Locations.{fixed_location}
use Rattle.locations.proofs.lookups.in_fixed.Goals as goal

pub returns-then-part-eq0 : goal.returns-then-part-eq0
unfolding fixed_location
returns-then-part-eq0 c =
    rw (← c.find_fixed-part.ensures, eq-eqb _ 0 c.if-part-eq0.true)

pub returns : goal.returns
unfolding fixed_location
returns c =
    rw (← c.find_fixed-part.ensures, ne_eqb _ 0 c.if-part-eq0.false)

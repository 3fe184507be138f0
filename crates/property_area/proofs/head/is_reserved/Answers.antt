-- `head::is_reserved` meets its contract.
use Rattle.words.proofs.Ranges.{range_is}
use Rattle.property_area.specs.Head.{is_reserved}
use Rattle.property_area.proofs.head.is_reserved.Goals as goal

pub returns : goal.returns
unfolding is_reserved
returns c =
    rw (← range_is) c.are_zeros.ensures

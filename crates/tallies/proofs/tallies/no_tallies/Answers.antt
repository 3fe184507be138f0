-- `tallies::no_tallies` meets its contract.
use Rattle.tallies.proofs.tallies.no_tallies.Goals as goal

pub returns : goal.returns
returns c =
    cc

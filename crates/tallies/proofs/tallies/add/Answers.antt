-- `tallies::add` meets its contract.
use Rattle.tallies.proofs.tallies.add.Goals as goal

pub returns : goal.returns
returns c =
    cc

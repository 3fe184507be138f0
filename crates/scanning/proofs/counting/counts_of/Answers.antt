-- `counting::counts_of` meets its contract.
use Rattle.scanning.proofs.counting.counts_of.Goals as goal

pub returns : goal.returns
returns c =
    cc

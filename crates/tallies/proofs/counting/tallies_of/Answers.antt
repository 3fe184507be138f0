-- `counting::tallies_of` meets its contract.
use Rattle.tallies.proofs.counting.tallies_of.Goals as goal

pub returns : goal.returns
returns c =
    rw (c.counts_of.ensures, c.counts_of-2.ensures, c.counts_of-3.ensures, c.counts_of-4.ensures)

-- `keeping::extended` meets its contract.
use Rattle.tallies.proofs.Recounts.{extends_fit}
use Rattle.tallies.proofs.keeping.extended.Goals as goal

pub add-requires : goal.add-requires
add-requires c =
    rw c.tallies_of.ensures (extends_fit c.args.journal c.args.more c.args.counts c.requires)

pub returns : goal.returns
returns c =
    rw (c.add.ensures, c.tallies_of.ensures)

-- `judging::length_of` meets its contract.
use Rattle.journal.proofs.RecordLaws.{length_is}
use Rattle.journal.proofs.judging.length_of.Goals as goal

pub returns : goal.returns
returns c =
    length_is c.args.kind c.requires

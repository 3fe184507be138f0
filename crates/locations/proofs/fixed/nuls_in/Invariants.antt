-- `fixed::nuls_in` meets its contract.
use Rattle.locations.proofs.NulLaws.{Counts}
use Rattle.locations.proofs.fixed.nuls_in.Given as goal

abbrev pub invariant-loop-byte : goal.invariant-loop-byte
invariant-loop-byte l = Counts l.block l.byte-index l.n

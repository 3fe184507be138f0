-- `filling::gather` meets its contract.
use native.Mathlib.Omega.{arith}
use Rattle.trace.proofs.Reader.{due_most}
use Rattle.replay.proofs.filling.gather.Goals as goal

pub gather-requires : goal.gather-requires
gather-requires c =
    (c.requires.0, λ r. omega (arith, due_most r, c.requires.1))

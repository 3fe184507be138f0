use Rattle.std.proofs.Common.{arith, rules}
use Rattle.scanning.proofs.WeightLaws.{filled_next}
use Rattle.scanning.proofs.weights.fill_weights.Goals as goal

pub loop-i-init : goal.loop-i-init
loop-i-init c =
    record { size = search rules; low = omega arith; high = omega arith; each = λ k l g. absurd (omega arith) }

pub loop-i-preserved : goal.loop-i-preserved
loop-i-preserved c =
    filled_next _ c.loop-i.table c.loop-i.i c.weight.result c.loop-i.invariant (search rules) (rw (← c.set_of.ensures) c.weight.ensures)

pub returns : goal.returns
returns c =
    λ k g h. c.loop-i.invariant.each k (omega arith) g

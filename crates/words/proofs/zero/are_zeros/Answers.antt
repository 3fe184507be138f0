use mathlib.Core.Path.{refl}
use borrow.Author.Rules.{rules}
use Rattle.words.proofs.Zeros.{zeros_next, zeros_end}
use Rattle.words.proofs.zero.are_zeros.Goals as goal

pub loop-i-init : goal.loop-i-init
loop-i-init c = refl

pub loop-i-preserved : goal.loop-i-preserved
loop-i-preserved c = rw c.max-largest.ensures (zeros_next _ _ _ (search rules) c.loop-i.invariant)

pub returns : goal.returns
returns c = zeros_end _ _ _ (search rules) c.loop-i.invariant

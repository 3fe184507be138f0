use mathlib.Core.Path.{refl}
use borrow.Author.Rules.{rules}
use Rattle.words.proofs.Stores.{storing_start, storing_next, storing_end}
use Rattle.words.proofs.storing.store.Goals as goal

pub loop-i-init : goal.loop-i-init
loop-i-init c = storing_start _ _ _

pub loop-i-preserved : goal.loop-i-preserved
loop-i-preserved c = storing_next c.loop-i.invariant _ (search rules) refl

pub shape_of-s : goal.shape_of-s
shape_of-s c = c.loop-i.invariant.same

pub returns : goal.returns
returns c = storing_end c.loop-i.invariant (search rules)

use mathlib.Core.Path.{◌≡◌, refl}
use native.Mathlib.Omega.{arith}
use lib.Seq.{take_all}
use borrow.Author.Rules.{rules}
use Rattle.counting.proofs.Summing.{rows_next}
use Rattle.counting.proofs.figures.rows_first.Goals as goal

pub loop-i-init : goal.loop-i-init
loop-i-init c =
    refl

pub loop-i-preserved : goal.loop-i-preserved
loop-i-preserved c =
    rw c.loop-i.invariant (rows_next c.args.rows c.loop-i.i (search rules) (search rules))

pub returns : goal.returns
returns c =
    let whole : c.loop-i.i ≡ 28 = search rules in
    rw (whole, take_all 28 c.args.rows (search rules)) at c.loop-i.invariant

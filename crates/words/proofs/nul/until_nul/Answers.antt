use Prim.Native.Nat.{◌-◌}
use lib.ListN.{length}
use mathlib.Core.Path.{◌∙◌, sym, ap}
use borrow.Author.Rules.{rules}
use native.Mathlib.Omega.{arith}
use Rattle.std.specs.Prelude.{position, ◌==◌}
use Rattle.words.proofs.Ends.{nul_here, nul_later, until_le}
use Rattle.words.proofs.Ranges.{range_from}
use Rattle.words.proofs.nul.until_nul.Goals as goal

pub returns-in-Some : goal.returns-in-Some
returns-in-Some c =
    nul_here c.args.bytes.now c.loop-at.at (length c.args.bytes.now - c.loop-at.at) (omega (arith, c.loop-at.invariant.0)) c.loop-at.invariant.1 c.in-Some.before (sym c.in-Some.is ∙ c.first_nul.ensures)

pub returns-in-None : goal.returns-in-None
returns-in-None c =
    let n = length c.args.bytes.now - c.loop-at.at in
    omega (arith, until_le c.args.bytes.now, nul_later c.args.bytes.now c.loop-at.at n (omega (arith, c.loop-at.invariant.0)) c.loop-at.invariant.1 (sym c.in-None.is ∙ c.first_nul.ensures), c.loop-at.invariant.0)

pub returns-in-Some-first_nul : goal.returns-in-Some-first_nul
returns-in-Some-first_nul c =
    nul_here c.args.bytes.now c.loop-at.at 6 (search rules) c.loop-at.invariant.1 c.in-Some-first_nul.before (sym c.in-Some-first_nul.is ∙ c.first_nul-in-loop-at.ensures ∙ ap (position (λ b. b == 0)) (range_from c.args.bytes.now c.loop-at.at 6))

pub loop-at-preserved : goal.loop-at-preserved
loop-at-preserved c =
    (search rules, nul_later c.args.bytes.now c.loop-at.at 6 (search rules) c.loop-at.invariant.1 (sym c.in_default.is ∙ c.first_nul-in-loop-at.ensures ∙ ap (position (λ b. b == 0)) (range_from c.args.bytes.now c.loop-at.at 6)))

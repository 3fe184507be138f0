use Prim.Native.Nat.{ℕ}
use mathlib.Core.Path.{◌∙◌, ap}
use borrow.Author.Rules.{rules}
use native.Mathlib.Omega.{arith}
use lib.ListN.{replicate, length-replicate, length-take, length-drop}
use Rattle.words.proofs.Ranges.{put_stored}
use Rattle.words.proofs.storing.store_zeros.Goals as goal

pub returns : goal.returns
returns c =
    put_stored _ _ (replicate c.args.n 0) _ _ (c.fill.ensures.after (λ y e. e) ∙ ap (λ (n : ℕ). replicate n 0) (simp (length-take, length-drop) (omega arith))) (search (rules, length-replicate)) (search (rules, length-replicate))

-- `filling::ripe_at` meets its contract.
use mathlib.Core.Path.{◌≡◌, ◌∙◌}
use mathlib.Core.Bool.{Bool, true, false, cond}
use Prim.Native.Nat.{ℕ}
use Rattle.std.specs.Prelude.{Option, Some, None}
use Rattle.std.specs.Option.{unwrap_or}
use Rattle.replay.proofs.filling.ripe_at.Goals as goal

or_zero : (t : Bool) (n : ℕ) (o : Option ℕ) → o ≡ cond t (Some n) None → unwrap_or o 0 ≡ cond t n 0
or_zero true n o e = rw e
or_zero false n o e = rw e

pub returns : goal.returns
returns c =
    c.unwrap_or.ensures ∙ or_zero _ _ _ c.ripe_at.ensures

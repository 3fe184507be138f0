-- `scope::given` meets its contract.
use mathlib.Core.Path.{◌≡◌}
use mathlib.Core.Bool.{Bool, true, false, cond}
use mathlib.Core.Logic.{◌⊎◌, inl, inr}
use Prim.Native.Nat.{ℕ}
use lib.Dec.{eqb}
use Rattle.print_nodes.specs.Text.{scope_of}
use Rattle.print_nodes.proofs.scope.given.Goals as goal

-- 1 or 3, whatever the argument is
either : (r n byte : ℕ) → r ≡ scope_of n byte → (r ≡ 1) ⊎ (r ≡ 3)
unfolding scope_of
either r n byte e = go (eqb n 1) (eqb byte 51) e
  where
    go : (a b : Bool) → r ≡ cond a (cond b 3 1) 1 → (r ≡ 1) ⊎ (r ≡ 3)
    go true true e = inr e
    go true false e = inl e
    go false b e = inl e

pub returns : goal.returns
returns c =
    either _ _ _ c.scope_of.ensures

-- `head::is_reserved` meets its contract.
use Prim.Native.Nat.{ℕ, ◌≤◌}
use native.Mathlib.Omega.{arith}
use lib.Dec.{eqb}
use Rattle.words.proofs.Choice.{choose}
use Rattle.words.proofs.Ranges.{range_is}
use Rattle.node_area.specs.Head.{head_size, reserved_from, is_reserved}
use Rattle.node_area.proofs.head.is_reserved.Goals as goal

-- the reserved bytes are in the head
in_head : (scope : ℕ) → reserved_from scope ≤ head_size
in_head scope = choose (eqb scope 3) (λ (n : ℕ). n ≤ head_size) (λ _. omega arith) (λ _. omega arith)

pub slice_bounds-are_zeros-start : goal.slice_bounds-are_zeros-start
slice_bounds-are_zeros-start c =
    rw c.reserved_from.ensures (in_head c.args.scope)

pub returns : goal.returns
unfolding is_reserved
returns c =
    rw (← range_is, ← c.reserved_from.ensures) c.are_zeros.ensures

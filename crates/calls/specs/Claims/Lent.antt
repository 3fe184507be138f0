-- What is claimed of the definitions of `Lent`.
use Rattle.std.specs.Prelude.{ℕ, ◌≡◌, List, take, drop}
use Rattle.std.proofs.Math.Seq.{paste}
use Rattle.calls.specs.Lent.{part_at, with_part}

-- the bytes as they stand; `paste` puts one list in the place of so many bytes of another
pub record PartExactly : Type 0 where
  pub taken : (m : List ℕ) (address size : ℕ) → part_at m address size ≡ take size (drop address m)
  pub put : (m part : List ℕ) (address size : ℕ) → with_part m address size part ≡ paste m address part size

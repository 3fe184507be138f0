-- Bytes with zeros behind them.
use mathlib.Core.Path.{◌≡◌, ◌∙◌}
use mathlib.Core.List.{List}
use Prim.Native.Nat.{ℕ, ◌≤◌}
use native.Mathlib.Nat.{zero-add}
use lib.ListN.{length, replicate}
use lib.Seq.{sets, sets-eq}
use Rattle.std.proofs.lemmas.List.{drop-replicate}
use Rattle.dump.specs.Registration.{copy_size, padded}

-- stored in front of nothing but zeros
pub stored_padded : (s : List ℕ) → length s ≤ copy_size → sets (replicate copy_size 0) 0 s ≡ padded s
unfolding padded
stored_padded s h =
    let zeros : List ℕ = replicate copy_size 0 in
    sets-eq s zeros 0 (rw zero-add h) ∙ rw (zero-add, drop-replicate)

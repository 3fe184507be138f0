-- The search along all entries of a flag and type.
use mathlib.Core.Path.{◌≡◌, sym, ap, ◌∙◌}
use mathlib.Core.List.{List}
use Prim.Native.Nat.{ℕ, ◌+◌, ◌-◌, ◌≤◌}
use native.Mathlib.Omega.{arith}
use lib.ListN.{length, drop_of_length-le}
use Rattle.inventory.specs.Listing.{listed}
use Rattle.inventory.specs.Inner.Located.{located_at}
use Rattle.inventory.specs.Claims.Scanning.{ahead, GoodFrom}
use Rattle.inventory.specs.declared.locating.Located.{Located}
use Rattle.inventory.proofs.Search.{NextMatch}
use Rattle.bench.specs.Inner.Bench.{last_index}

-- The search has come to a place behind an entry: so many are left, and the last of them is the last of all.
pub record Walked (flag type : ℕ) (inventory : List ℕ) (at left last : ℕ) : Type 0 where
  pub onward : GoodFrom flag type inventory at
  pub due : left ≡ length (ahead flag type inventory at)
  pub same : last_index last (ahead flag type inventory at) ≡ last_index 0 (listed flag type inventory)

module _ {flag type at left last : ℕ} {inventory : List ℕ} (w : Walked flag type inventory at left last) where
  -- past the next entry
  pub walked_step : {found : ℕ} {l : Located} → NextMatch flag type inventory at found → l ≡ located_at inventory found → Walked flag type inventory (found + l.size) (left - 1) l.index
  unfolding last_index
  walked_step n p = rw p (record { onward = n.onward; due = omega (arith, ap length n.first); same = sym (ap (last_index last) n.first) ∙ w.same })

  pub walked_end : left ≤ 0 → last ≡ last_index 0 (listed flag type inventory)
  unfolding last_index
  walked_end h = sym (ap (last_index last) (drop_of_length-le (ahead flag type inventory at) {i = 0} (omega arith))) ∙ w.same

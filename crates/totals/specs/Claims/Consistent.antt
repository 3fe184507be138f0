-- What is claimed of the definitions of `Consistent`.
use Rattle.std.specs.Prelude.{ℕ, suc, ◌+◌, ◌*◌, ◌≤◌, ◌≡◌, true, List, length, get_or, IsOk}
use Rattle.words.specs.Claims.Exactly.{Exactly}
use Rattle.totals.specs.declared.adding.Totals.{Totals}
use Rattle.totals.specs.Adding.{no_totals, added_to, totals_after}
use Rattle.totals.specs.Consistent.{sum_from, consistent}

-- Totals of no trace are so.
abbrev pub ConsistentNone : Type 0
ConsistentNone = consistent no_totals ≡ true

-- Where both are so, and none is refused, their sums are so.
abbrev pub ConsistentKept : Type 0
ConsistentKept =
    (t m : Totals) → length t.figures ≡ 35 → length m.figures ≡ 35 → consistent t ≡ true → consistent m ≡ true → IsOk (added_to t m)
    → consistent (totals_after t m) ≡ true

-- Each rule by itself, in the order of the figures; a sum of figures is theirs one after the other.
abbrev pub ConsistentExactly : Type 0
ConsistentExactly = (t : Totals)
    → let fs = t.figures in
    Exactly (consistent t ≡ true)
    (((get_or fs 28 0 ≡ sum_from fs 0 7) × ((get_or fs 29 0 ≡ sum_from fs 7 7) × ((get_or fs 30 0 ≡ sum_from fs 14 7) × (get_or fs 31 0 ≡ sum_from fs 21 7))))
    × ((get_or fs 34 0 ≡ 1019 * sum_from fs 0 2) × ((get_or fs 32 0 ≤ get_or fs 33 0) × (get_or fs 33 0 ≤ get_or fs 34 0))))

pub record SumExactly : Type 0 where
  pub none : (fs : List ℕ) (at : ℕ) → sum_from fs at 0 ≡ 0
  pub next : (fs : List ℕ) (at n : ℕ) → sum_from fs at (suc n) ≡ get_or fs at 0 + sum_from fs (suc at) n

pub record ConsistentClaims : Type 0 where
  pub exactly : ConsistentExactly
  pub sums : SumExactly
  pub none : ConsistentNone
  pub kept : ConsistentKept

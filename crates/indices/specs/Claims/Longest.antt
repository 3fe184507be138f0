-- The run that a call hands out is the longest that fits (document 01, "get-indices").
use Rattle.std.specs.Prelude.{ℕ, ◌+◌, ◌*◌, ◌-◌, ◌/◌, ◌<◌, ◌≤◌, ◌≡◌, List, [], ◌∷◌, length, take, drop}
use Rattle.inventory.specs.Listing.{Entry}
use Rattle.indices.specs.Area.{run}

-- 01: "A code of c bytes takes 8 + 4 x (c / 4 + 1) bytes": the bytes that entries take
unfoldable pub taken : List Entry → ℕ
taken [] = 0
taken (e ∷ es) = 8 + 4 * (length e.code / 4 + 1) + taken es

-- 01: "The longest fitting run is returned": the first entries of a list, which fit into an area behind its count, and no more of them do
pub record LongestOf (size : ℕ) (es run : List Entry) : Type 0 where
  pub first : run ≡ take (length run) es
  pub fits : 4 + taken run ≤ size
  pub no_longer : (n : ℕ) → length run < n → n ≤ length es → size < 4 + taken (take n es)

abbrev pub LongestRun : Type 0
LongestRun = (size number : ℕ) (es : List Entry) → 4 ≤ size → LongestOf size (drop (number - 1) es) (run size number es)

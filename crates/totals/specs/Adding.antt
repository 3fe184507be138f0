-- Totals over traces (document 02, M-111: "counts are the sums of the traces' counts", "Refusals: .. then a count that would pass 2^64 - 1; .. the
-- counts before that
-- trace are kept whole").
use Rattle.std.specs.Prelude.{ℕ, ◌+◌, Bool, true, cond, ◌&&◌, List, [], ◌∷◌, leb, replicate, Result, Ok, Err}
use Rattle.totals.specs.declared.adding.Totals.{Totals}

abbrev pub totals_of : List ℕ → Totals
totals_of figures = record { figures = figures }

abbrev pub no_totals : Totals
no_totals = totals_of (replicate 35 0)

-- figure by figure
unfoldable pub sums : List ℕ → List ℕ → List ℕ
sums [] more = []
sums (t ∷ ts) [] = []
sums (t ∷ ts) (m ∷ ms) = (t + m) ∷ sums ts ms

-- "a count that would pass 2^64 - 1"
unfoldable pub all_fit : List ℕ → Bool
all_fit [] = true
all_fit (n ∷ ns) = leb n 0xffff_ffff_ffff_ffff && all_fit ns

unfoldable pub added_to : Totals → Totals → Result Totals Totals
added_to t more = let s = sums t.figures more.figures in cond (all_fit s) (Ok (totals_of s)) (Err t)

-- the totals that come back either way
abbrev pub either_way : Result Totals Totals → Totals
either_way (Ok t) = t
either_way (Err t) = t

-- "the counts before that trace are kept whole"
abbrev pub totals_after : Totals → Totals → Totals
totals_after t more = either_way (added_to t more)

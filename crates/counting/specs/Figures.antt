-- The figures of a trace, which are added up over traces (document 02, M-111).
use Rattle.std.specs.Prelude.{ℕ, zero, suc, ◌+◌, ◌*◌, List, [], ◌∷◌, ◌++◌, drop}
use Rattle.totals.specs.declared.adding.Totals.{Totals}
use Rattle.totals.specs.Adding.{totals_of}
use Rattle.counting.specs.declared.counts.Counts.{Counts}

-- the first n numbers of a list together
unfoldable pub sum_of : ℕ → List ℕ → ℕ
sum_of zero ns = 0
sum_of (suc k) [] = 0
sum_of (suc k) (n ∷ ns) = n + sum_of k ns

-- The calls of each status, the calls of each token ("calls with argument answer 0"), "operations handed out, words used" and "words available (1,019 for each
-- answered call)".
abbrev pub figures_in : Counts → List ℕ
figures_in c =
    c.rows
    ++ (sum_of 7 (drop 0 c.rows) ∷ sum_of 7 (drop 7 c.rows) ∷ sum_of 7 (drop 14 c.rows) ∷ sum_of 7 (drop 21 c.rows) ∷ c.operations ∷ c.used
    ∷ 1019 * sum_of 2 c.rows ∷ [])

abbrev pub figures_of : Counts → Totals
figures_of c = totals_of (figures_in c)

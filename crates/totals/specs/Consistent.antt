-- Totals that come from elsewhere, and whether they can be the totals of traces.
use Rattle.std.specs.Prelude.{ℕ, zero, suc, ◌+◌, ◌*◌, Bool, ◌&&◌, List, [], ◌∷◌, leb, eqb, get_or, set}
use Rattle.totals.specs.declared.adding.Totals.{Totals}
use Rattle.totals.specs.Adding.{totals_of, no_totals}

-- the sum of so many figures from a place on
unfoldable pub sum_from : List ℕ → ℕ → ℕ → ℕ
sum_from fs at zero = 0
sum_from fs at (suc n) = get_or fs at 0 + sum_from fs (suc at) n

-- The calls of each token are those of its seven statuses.
unfoldable pub calls_agree : List ℕ → Bool
calls_agree fs =
    eqb (get_or fs 28 0) (sum_from fs 0 7)
    && (eqb (get_or fs 29 0) (sum_from fs 7 7)
    && (eqb (get_or fs 30 0) (sum_from fs 14 7)
    && eqb (get_or fs 31 0) (sum_from fs 21 7)))

-- 1,019 words are available for each answered call; no more operations than words used, and no more words used than available.
unfoldable pub words_agree : List ℕ → Bool
words_agree fs =
    eqb (get_or fs 34 0) (1019 * sum_from fs 0 2)
    && (leb (get_or fs 32 0) (get_or fs 33 0)
    && leb (get_or fs 33 0) (get_or fs 34 0))

-- What holds of the totals of any traces (document 02, M-111): the calls of each token are those of its seven statuses; 1,019 words are available for
-- each answered
-- call; no more operations than words used, and no more words used than available.
unfoldable pub consistent : Totals → Bool
consistent t = calls_agree t.figures && words_agree t.figures

-- totals with figures at places
abbrev pub figures_at : List (ℕ × ℕ) → Totals
figures_at [] = no_totals
figures_at (f ∷ fs) = totals_of (set (figures_at fs).figures f.0 f.1)

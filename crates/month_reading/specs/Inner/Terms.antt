-- Terms of contracts inside the crate.
use Rattle.std.specs.Prelude.{ℕ, zero, suc, ◌+◌, ◌*◌, ◌≤◌, ◌≡◌, cond, List, [], ◌++◌, ltb, length, drop, replicate}
use Rattle.std.specs.Prelude.{Option, Some, None, Result, MatchResult}
use Rattle.month_reading.specs.declared.finding.Row.{Row}
use Rattle.month_reading.specs.declared.judging.Rows.{Rows}
use Rattle.month_reading.specs.declared.judging.Judged.{Judged}
use Rattle.month_table.specs.Table.{row}
use Rattle.month_table.specs.Reading.{table, wrong, count_in, is_row, digest_in, figures_from, sessions_from, reading}

-- ---- terms of the contracts inside; the promises do not cite them

abbrev pub count_of : ℕ → Option ℕ
count_of v = cond (ltb v 0x1_0000_0000_0000_0000) (Some v) None

unfoldable pub row_in : ℕ → List ℕ → Option Row
row_in p t = cond (is_row p t) (Some (record { count = count_in p t; length = length (row p (count_in p t)) })) None

-- the digests of n rows that begin a text
unfoldable pub digests_in : ℕ → List ℕ → List ℕ
digests_in zero t = []
digests_in (suc n) t = digest_in t ++ digests_in n (drop 75 t)

-- what the rows of the figures give: the sessions are read from a place on, or a line is wrong
pub record RowsTaken (t : List ℕ) (r : Rows) : Type 0 where
  pub inside : r.at ≤ length t
  pub same : figures_from 39 0 (replicate 39 0) (drop 19 t) ≡ sessions_from (length (drop r.at t)) 41 r.figures (drop r.at t)

abbrev pub RowsRead : List ℕ → Result Rows ℕ → Type 0
RowsRead t r = MatchResult r (λ rows. RowsTaken t rows) (λ line. figures_from 39 0 (replicate 39 0) (drop 19 t) ≡ wrong line)

-- what the rows of the sessions give
pub record SessionsTaken (s : List ℕ) (count : ℕ) : Type 0 where
  pub inside : 75 * count ≤ length s
  pub same : (figures : List ℕ) → sessions_from (length s) 41 figures s ≡ table figures (digests_in count s)

abbrev pub SessionsRead : List ℕ → Result ℕ ℕ → Type 0
SessionsRead s r = MatchResult r (λ count. SessionsTaken s count) (λ line. (figures : List ℕ) → sessions_from (length s) 41 figures s ≡ wrong line)

pub record TableTaken (t : List ℕ) (r : Judged) : Type 0 where
  pub inside : r.rows.at + 75 * r.sessions ≤ length t
  pub same : reading t ≡ table r.rows.figures (digests_in r.sessions (drop r.rows.at t))

abbrev pub Judges : List ℕ → Result Judged ℕ → Type 0
Judges t r = MatchResult r (λ judged. TableTaken t judged) (λ line. reading t ≡ wrong line)

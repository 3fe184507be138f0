-- What is claimed of the definitions of `Terms`.
use Rattle.std.specs.Prelude.{ℕ, ◌*◌, ◌≤◌, ◌≡◌, length, get_or}
use Rattle.counting.specs.declared.counts.Counts.{Counts}

-- each row at most so many calls, a word or more for each operation, and no more words than so many areas can hand out
pub record Within (calls : ℕ) (c : Counts) : Type 0 where
  pub size : length c.rows ≡ 28
  pub rows : (i : ℕ) → get_or c.rows i 0 ≤ calls
  pub operations : c.operations ≤ c.used
  pub used : c.used ≤ 1019 * calls

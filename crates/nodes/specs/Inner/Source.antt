-- What the writer is given beside its area and the state.
use Rattle.std.specs.Prelude.{ℕ, ◌≡◌, true, List}
use Rattle.journal.specs.Scope.{Selection}
use Rattle.journal.specs.declared.counts.Counts.{Counts}
use Rattle.journal.specs.Journal.{well_formed}
use Rattle.journal.specs.Reportable.{counts_of}
use Rattle.journal.specs.Marks.{Marked}
use Rattle.journal.specs.declared.marks.Marks.{Marks}

-- a well-formed journal with what its scan told
pub record Source (selection : Selection) (j : List ℕ) (counts : Counts) (marks : Marks) : Type 0 where
  pub good : well_formed j ≡ true
  pub counted : counts ≡ counts_of selection j
  pub marked : Marked selection j marks

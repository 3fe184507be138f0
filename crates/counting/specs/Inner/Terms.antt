-- Terms of contracts inside the crate.
use Rattle.std.specs.Prelude.{◌≤◌}
use Rattle.counting.specs.declared.area.Tally.{Tally}

-- what one area can hand out at most
pub record Small (t : Tally) : Type 0 where
  pub operations : t.operations ≤ t.words
  pub words : t.words ≤ 1019

-- What is claimed of the definitions of `Played`.
use Rattle.std.specs.Prelude.{ℕ, ◌≤◌, List, length, IfSome}
use Rattle.playing.specs.declared.playing.Playing.{Playing}
use Rattle.trace.specs.Playing.{agreed}

-- What a start has and every record leaves: room for any argument buffer, one that waits within it, no more calls than records.
pub record Steady (args : List ℕ) (t : Playing) : Type 0 where
  pub room : 4100 ≤ length args
  pub inside : IfSome t.waiting (λ n. n ≤ 4100)
  pub few : t.records ≤ 4_294_967_295
  pub fewer : agreed t.report ≤ t.records

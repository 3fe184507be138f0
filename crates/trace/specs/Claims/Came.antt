-- What is claimed of the definitions of `Came`.
use Rattle.std.specs.Prelude.{ℕ, ◌≡◌, true, List}
use Rattle.records.specs.Cutting.{start, fed_all}
use Rattle.trace.specs.Playing.{Platform, begin, reader}
use Rattle.trace.specs.Came.{state_came}

-- All that a start and bursts leave has come.
abbrev pub AllCame : Type 0
AllCame = (p : Platform) (m : List ℕ) (bs : List (List ℕ)) → state_came p.edition (fed_all (reader p) (start (begin m)) bs).state ≡ true

-- What is claimed of the definitions of `States`.
use Rattle.std.specs.Prelude.{ℕ, ◌≤◌, ◌≡◌, true, List, length}
use Rattle.words.specs.Claims.Exactly.{Exactly}
use Rattle.intake.specs.declared.bursts.Intake.{Intake}
use Rattle.intake.specs.Bursts.{Ready}
use Rattle.intake.specs.States.{ready_for}

-- With a store that has room for any record this is exactly what a burst asks for, a start has, and a burst leaves.
abbrev pub ReadyExactly : Type 0
ReadyExactly = (buffer store : List ℕ) (i : Intake) → 32_808 ≤ length store → Exactly (ready_for store (length buffer) i ≡ true) (Ready buffer store i)

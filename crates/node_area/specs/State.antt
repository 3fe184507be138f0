-- What lies on both sides of a state, opcode by opcode.
use Rattle.std.specs.Prelude.{ℕ, ◌+◌, ◌-◌, Bool, ◌||◌, eqb, ltb}
use Rattle.journal.specs.declared.counts.Counts.{Counts}

abbrev pub total : Counts → ℕ
total c = c.deletes + c.updates + c.additions

-- 01: "The state is 0, or above 0 and below the length of the reportable list.", of a list with so many operations
abbrev pub is_within : ℕ → ℕ → Bool
is_within state all = eqb state 0 || ltb state all

-- 01: "It counts operations already reported." Where each opcode's operations go on behind it: past their end where all were reported.
abbrev pub passed_of : Counts → ℕ → Counts
passed_of all state = record { deletes = state; updates = state - all.deletes; additions = state - all.deletes - all.updates }

-- how many operations of each opcode remain of a list after its first `state` operations
abbrev pub remaining_of : Counts → ℕ → Counts
remaining_of all state =
    let passed = passed_of all state in
    record { deletes = all.deletes - passed.deletes; updates = all.updates - passed.updates; additions = all.additions - passed.additions }

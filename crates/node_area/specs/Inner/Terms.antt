-- Terms of contracts inside the crate.
use Rattle.std.specs.Prelude.{ℕ, ◌/◌, cond, eqb}
use Rattle.node_area.specs.Reading.{opcode_in, count_in}

-- how many operations an operator has
abbrev pub operations_in : ℕ → ℕ
operations_in word = cond (eqb (opcode_in word) 3) (count_in word / 2) (count_in word)

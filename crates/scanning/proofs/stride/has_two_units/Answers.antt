-- `stride::has_two_units` meets its contract.
use Rattle.std.proofs.Common.{◌≡◌, ℕ, arith}
use Rattle.scanning.proofs.stride.has_two_units.Goals as goal

pub returns-then-first : goal.returns-then-first
returns-then-first c =
    λ e. (c.has_unit-first.ensures c.if-first.true, c.has_unit-second.ensures e)

pub returns-else-first : goal.returns-else-first
returns-else-first c =
    λ e. let z : ◌≡◌ {A = ℕ} 0 1 = cc in absurd (omega arith)

-- `registration::phase_of` meets its contract.
use native.Mathlib.Omega.{arith}
use borrow.Author.Tests.{ne_eqb}
use Rattle.crossing.proofs.registration.phase_of.Goals as goal

pub returns-in_default : goal.returns-in_default
returns-in_default c =
    rw (ne_eqb c.args.number 0 (λ e. omega arith), ne_eqb c.args.number 1 (λ e. omega arith))

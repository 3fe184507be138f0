-- `registration::is_registration` meets its contract.
use native.Mathlib.Omega.{arith}
use borrow.Author.Tests.{le-leb, lt-leb}
use Rattle.crossing.specs.Registration.{is_registration}
use Rattle.crossing.proofs.registration.is_registration.Goals as goal

pub returns-then-flat-le2 : goal.returns-then-flat-le2
unfolding is_registration
returns-then-flat-le2 c =
    rw (le-leb c.args.flat.phase 2 (omega arith))

pub returns-else-flat-le2 : goal.returns-else-flat-le2
unfolding is_registration
returns-else-flat-le2 c =
    rw (lt-leb _ 2 c.if-flat-le2.false)

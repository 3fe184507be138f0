-- `registration::Registration::configure` meets its contract.
use mathlib.Core.Path.{◌∙◌}
use native.Mathlib.Omega.{arith}
use Rattle.dump.specs.Registration.{verdict_of, registration_after}
use Rattle.dump.proofs.Verdicts.{outside}
use Rattle.dump.proofs.registration.Registration.configure.Goals as goal

pub returns-in_default : goal.returns-in_default
unfolding verdict_of registration_after
returns-in_default c =
    c.refused.ensures ∙ rw (outside c.args.command (λ e. omega arith) (λ e. omega arith) (λ e. omega arith))

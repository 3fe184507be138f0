-- `running::draugsten_run_dump` meets its contract.
use mathlib.Core.Path.{refl, sym, ◌∙◌}
use Rattle.draugsten_dump.specs.Running.{flat_run_of}
use Rattle.draugsten_dump.proofs.Promises.{run_promise}
use Rattle.draugsten_dump.proofs.running.draugsten_run_dump.Goals as goal

pub returns-then-not-is_registration : goal.returns-then-not-is_registration
unfolding flat_run_of
returns-then-not-is_registration c =
    rw (sym c.is_registration.ensures ∙ c.if-not-is_registration.true) (record { registration_after = refl; promise = run_promise })

pub returns : goal.returns
unfolding flat_run_of
returns c =
    let is = sym c.is_registration.ensures ∙ c.if-not-is_registration.false in
    rw (is, ← c.registration_of.ensures.value, ← c.run_dump-ran.ensures.result_after, c.status_of.ensures, c.flat_of.ensures) (record { registration_after = refl; promise = run_promise })

-- `calling::draugsten_call` meets its contract.
use mathlib.Core.Path.{refl, sym, ◌∙◌}
use Rattle.draugsten.specs.Registration.{flat_call_of}
use Rattle.draugsten.proofs.Promises.{call_promise}
use Rattle.draugsten.proofs.calling.draugsten_call.Goals as goal

pub returns-then-not-is_registration : goal.returns-then-not-is_registration
unfolding flat_call_of
returns-then-not-is_registration c =
    rw (sym c.is_registration.ensures ∙ c.if-not-is_registration.true) (record { reading_after = refl; promise = call_promise })

pub returns : goal.returns
unfolding flat_call_of
returns c =
    let is = sym c.is_registration.ensures ∙ c.if-not-is_registration.false in
    rw (is, ← c.registration_of.ensures.value, ← c.reading_of.ensures.value, ← c.call_step-stepped.ensures.reading_after, c.from.ensures, c.flat_of.ensures, c.flat_reading_of.ensures) (record { reading_after = refl; promise = call_promise })

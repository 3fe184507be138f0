-- What a run of a dump gives at the C boundary.
use Rattle.std.specs.Prelude.{ℕ, cond, List}
use Rattle.calls.specs.Status.{status_word}
use Rattle.calls.specs.ConfigureDump.{verdict_status}
use Rattle.crossing.specs.declared.registration.FlatRegistration.{FlatRegistration}
use Rattle.crossing.specs.Registration.{flat_of, registration_of, is_registration}
use Rattle.dumping.specs.Running.{run_of}

-- All that a run leaves, with the registration as it crosses.
pub record FlatLeft : Type 0 where
  pub number : ℕ
  pub status : ℕ
  pub memory : List ℕ
  pub registration : FlatRegistration

abbrev pub flat_leaves : ℕ → ℕ → List ℕ → FlatRegistration → FlatLeft
flat_leaves number status memory registration = record { number = number; status = status; memory = memory; registration = registration }

-- 13 where no registration is given, and then nothing changes; beside 13 stands the status -3, so that nobody takes it for done
unfoldable pub flat_run_of : List ℕ → List ℕ → FlatRegistration → FlatLeft
flat_run_of platform memory flat =
    let x = run_of platform memory (registration_of flat) in
    cond (is_registration flat)
    (flat_leaves 0 (status_word (verdict_status x.verdict)) x.memory (flat_of x.next))
    (flat_leaves 13 0xffff_fffd memory flat)

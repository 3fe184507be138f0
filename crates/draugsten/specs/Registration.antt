-- What a call gives at the C boundary.
use Rattle.std.specs.Prelude.{ℕ, cond, List}
use Rattle.calls.specs.Status.{number_of}
use Rattle.calls.specs.Buffer.{Found, found, Left, call_of}
use Rattle.crossing.specs.declared.registration.FlatRegistration.{FlatRegistration}
use Rattle.crossing.specs.declared.reading_record.FlatReading.{FlatReading}
use Rattle.crossing.specs.Registration.{flat_of, registration_of, is_registration}
use Rattle.crossing.specs.Record.{flat_reading_of, reading_of}

-- All that a call finds and all that it leaves, with the registration and the reading record as they cross.
pub record FlatFound : Type 0 where
  pub args : List ℕ
  pub memory : List ℕ
  pub journal : List ℕ
  pub inventory : List ℕ
  pub edition : ℕ
  pub registration : FlatRegistration
  pub reading : FlatReading

abbrev pub flat_found : List ℕ → List ℕ → List ℕ → List ℕ → ℕ → FlatRegistration → FlatReading → FlatFound
flat_found args memory journal inventory edition registration reading =
    record { args = args; memory = memory; journal = journal; inventory = inventory; edition = edition; registration = registration; reading = reading }

pub record FlatLeft : Type 0 where
  pub number : ℕ
  pub args : List ℕ
  pub memory : List ℕ
  pub registration : FlatRegistration
  pub reading : FlatReading

abbrev pub flat_leaves : ℕ → List ℕ → List ℕ → FlatRegistration → FlatReading → FlatLeft
flat_leaves number args memory registration reading = record { number = number; args = args; memory = memory; registration = registration; reading = reading }

-- The call where a registration is given, and what it finds.
abbrev pub found_over : FlatFound → Found
found_over f = found f.args f.memory f.journal f.inventory (record { 0 = f.edition }) (registration_of f.registration) (reading_of f.reading)

abbrev pub called : FlatFound → Left
called f = call_of (found_over f)

-- 13 where none is given, and then nothing changes
unfoldable pub flat_call_of : FlatFound → FlatLeft
flat_call_of f =
    let x = called f in
    let given = flat_leaves (number_of x.number) x.args x.memory (flat_of x.registration) (flat_reading_of x.reading) in
    cond (is_registration f.registration) given (flat_leaves 13 f.args f.memory f.registration f.reading)

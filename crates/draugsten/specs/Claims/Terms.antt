-- What the promises of the archive speak with, written out.
use Rattle.std.specs.Prelude.{ℕ, ◌≡◌, List}
use Rattle.crossing.specs.declared.registration.FlatRegistration.{FlatRegistration}
use Rattle.crossing.specs.declared.reading_record.FlatReading.{FlatReading}
use Rattle.crossing.specs.Record.{flat_reading}
use Rattle.draugsten.specs.Registration.{flat_found, flat_leaves}

pub record TermsExactly : Type 0 where
  -- what a call finds and leaves at the C boundary, each in its place
  pub found-is : (args memory journal inventory : List ℕ) (edition : ℕ) (registration : FlatRegistration) (reading : FlatReading)
      → flat_found args memory journal inventory edition registration reading
      ≡ record { args = args; memory = memory; journal = journal; inventory = inventory; edition = edition; registration = registration; reading = reading }
  pub leaves_is : (number : ℕ) (args memory : List ℕ) (registration : FlatRegistration) (reading : FlatReading)
      → flat_leaves number args memory registration reading ≡ record {
        number = number;
        args = args;
        memory = memory;
        registration = registration;
        reading = reading;
      }
  pub no_reading_claim : flat_reading 0 0 1 0 ≡ record { flag = 0; item_type = 0; number = 1; edition = 0 }

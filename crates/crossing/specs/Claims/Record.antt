-- What is claimed of the definitions of `Record`.
use Rattle.std.specs.Prelude.{◌≡◌}
use Rattle.crossing.specs.declared.reading_record.FlatReading.{FlatReading}
use Rattle.crossing.specs.Record.{flat_reading_of, reading_of}

-- Every value is a record, and goes over the boundary and back as it is.
abbrev pub ReadingFaithful : Type 0
ReadingFaithful = (f : FlatReading) → flat_reading_of (reading_of f) ≡ f

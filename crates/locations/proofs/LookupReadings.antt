-- The lookups in bytes come out as they are written, by one computed test.
use Rattle.words.specs.Numbers.{be, be_bytes, zeros}
use Rattle.words.specs.Nul.{until_nul}
use Rattle.inventory.specs.Inventory.{code_limit}
use Rattle.indices.specs.Reading.{length_at, field_at, good_length, good_field, fault_at, read_from, reading}
use Rattle.locations.specs.Locations.{behind_nuls, fixed_part, fixed_location, first_listed, location_of}
use Rattle.locations.specs.Cases.Readings.{LookupReadings}

pub lookup_readings : LookupReadings
unfolding be be_bytes zeros code_limit length_at field_at until_nul good_length good_field fault_at read_from reading behind_nuls fixed_part fixed_location first_listed location_of
lookup_readings = tt

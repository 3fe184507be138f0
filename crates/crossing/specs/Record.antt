-- The reading record as it crosses the C boundary (document 02, M-105).
use Rattle.std.specs.Prelude.{ℕ}
use Rattle.calls.specs.declared.reading_record.ReadingRecord.{ReadingRecord}
use Rattle.crossing.specs.declared.reading_record.FlatReading.{FlatReading}

-- a record by its four numbers
abbrev pub flat_reading : ℕ → ℕ → ℕ → ℕ → FlatReading
flat_reading flag type number edition = record { flag = flag; item_type = type; number = number; edition = edition }

abbrev pub flat_reading_of : ReadingRecord → FlatReading
flat_reading_of r = record { flag = r.flag; item_type = r.item_type; number = r.number.0; edition = r.edition.0 }

abbrev pub reading_of : FlatReading → ReadingRecord
reading_of f = record { flag = f.flag; item_type = f.item_type; number = record { 0 = f.number }; edition = record { 0 = f.edition } }

-- Readings of the reading record on both sides of its lines (document 02, M-105), cited by the contract of `call`. Each case is a test of what one
-- call leaves.
use Rattle.std.specs.Prelude.{ℕ, Bool, ◌&&◌, List, [], ◌∷◌, T, eqb, replicate}
use Rattle.words.specs.Claims.Cases.{every}
use Rattle.words.specs.Numbers.{be32, word_bytes}
use Rattle.calls.specs.declared.reading_record.ReadingRecord.{ReadingRecord}
use Rattle.calls.specs.Buffer.{found, call_of}
use Rattle.calls.specs.Claims.Terms.{minus, naming}
use Rattle.calls.specs.Cases.Readings.{none, inventory_of}

abbrev pub same_record : ReadingRecord → ReadingRecord → Bool
same_record r s = eqb r.flag s.flag && (eqb r.item_type s.item_type
    && (eqb r.number.0 s.number.0 && eqb r.edition.0 s.edition.0))

-- what a call makes of a record over sensors of type 9 with codes of these lengths, in an edition: the status, and the record afterwards
abbrev pub leaves : List ℕ → ℕ → List ℕ → ReadingRecord → ℕ → ReadingRecord → Bool
leaves codes edition args r status after =
    let x = call_of (found (word_bytes args) (replicate 200 7) [] (inventory_of codes) (record { 0 = edition }) none r) in
    eqb (be32 x.args 32) status && same_record x.reading after

-- get-indices for a flag and type with an area of a size at the start of memory, and a Starting Number
abbrev pub asking : ℕ → ℕ → ℕ → ℕ → List ℕ
asking flag type size number = 2 ∷ 5 ∷ 2 ∷ flag ∷ type ∷ 0 ∷ size ∷ number ∷ 9 ∷ 9 ∷ []

-- five sensors, of which an area of 28 bytes holds two; in edition 8, with a record: the status and the record afterwards
abbrev pub five : List ℕ
five = 3 ∷ 3 ∷ 3 ∷ 3 ∷ 3 ∷ []

abbrev pub reading : List ℕ → ReadingRecord → ℕ → ReadingRecord → Bool
reading = leaves five 8

abbrev pub no_reading : ReadingRecord
no_reading = naming 0 0 1 0

abbrev pub cases : List Bool
cases =
    -- a reading from its start to its end: "an unfinished reading names the first entry not yet handed out", status 0 clears
    reading (asking 1 9 28 1) no_reading 1 (naming 1 9 3 8)
    ∷ reading (asking 1 9 28 3) (naming 1 9 3 8) 1 (naming 1 9 5 8)
    ∷ reading (asking 1 9 28 5) (naming 1 9 5 8) 0 no_reading
    -- "With no reading in progress every number but 1 differs."
    ∷ reading (asking 1 9 28 3) no_reading (minus 3) no_reading
    -- the same number with another flag, type or edition
    ∷ reading (asking 1 9 28 3) (naming 0 9 3 8) (minus 3) (naming 0 9 3 8)
    ∷ reading (asking 1 9 28 3) (naming 1 10 3 8) (minus 3) (naming 1 10 3 8)
    ∷ reading (asking 1 9 28 3) (naming 1 9 3 7) (minus 4) no_reading
    -- "-3 first": another number in another edition
    ∷ reading (asking 1 9 28 2) (naming 1 9 3 7) (minus 3) (naming 1 9 3 7)
    -- "both before the inventory check", which a code of no byte fails
    ∷ leaves (0 ∷ []) 8 (asking 1 9 28 3) (naming 1 9 3 7) (minus 4) no_reading
    ∷ leaves (0 ∷ []) 8 (asking 1 9 28 3) (naming 1 9 3 8) (minus 1) (naming 1 9 3 8)
    -- "Starting Number 1 always begins afresh", in any edition, and replaces the record only if it is answered
    ∷ reading (asking 1 9 16 1) (naming 0 7 3 7) 1 (naming 1 9 2 8)
    ∷ reading (asking 1 9 15 1) (naming 1 9 3 7) (minus 3) (naming 1 9 3 7)
    -- "Any other record meets the same checks": a number above the list
    ∷ reading (asking 1 9 28 6) (naming 1 9 6 8) (minus 3) (naming 1 9 6 8)
    ∷ []

abbrev pub RecordReadings : Type 0
RecordReadings = T (every cases)

-- Calls at the C boundary with a reading record and an edition, in numbers (document 02, M-105), cited by the contract of `draugsten_call`.
use Rattle.std.specs.Prelude.{ℕ, Bool, ◌&&◌, List, [], ◌∷◌, T, eqb, replicate}
use Rattle.words.specs.Claims.Cases.{every}
use Rattle.words.specs.Numbers.{be32, word_bytes}
use Rattle.calls.specs.Claims.Terms.{minus}
use Rattle.calls.specs.Cases.Readings.{inventory_of}
use Rattle.crossing.specs.declared.reading_record.FlatReading.{FlatReading}
use Rattle.crossing.specs.Record.{flat_reading}
use Rattle.draugsten.specs.Registration.{FlatLeft, flat_found, flat_call_of}

-- get-indices for sensors of type 9, of which there are five, with an area that holds two, in a phase and an edition
abbrev pub crossed : ℕ → ℕ → ℕ → FlatReading → FlatLeft
crossed phase edition number r =
    flat_call_of (flat_found (word_bytes (2 ∷ 5 ∷ 2 ∷ 1 ∷ 9 ∷ 0 ∷ 28 ∷ number ∷ 9 ∷ 9 ∷ [])) (replicate 28 7) [] (inventory_of (3 ∷ 3 ∷ 3 ∷ 3 ∷ 3 ∷ [])) edition
    (record { phase = phase; length = 0; copy = replicate 512 0 }) r)

-- the number, the status word, and the four numbers of the record
abbrev pub gives : FlatLeft → ℕ → ℕ → ℕ → ℕ → ℕ → ℕ → Bool
gives x number status flag type due edition =
    (eqb x.number number && eqb (be32 x.args 32) status)
    && (eqb x.reading.flag flag && (eqb x.reading.item_type type && (eqb x.reading.number due && eqb x.reading.edition edition)))

abbrev pub cases : List Bool
cases =
    -- a reading is begun, goes on, is given -4, and is given -3 for its flag, type or number
    gives (crossed 0 8 1 (flat_reading 0 0 1 0)) 0 1 1 9 3 8
    ∷ gives (crossed 0 8 3 (flat_reading 1 9 3 8)) 0 1 1 9 5 8
    ∷ gives (crossed 0 8 3 (flat_reading 1 9 3 7)) 0 (minus 4) 0 0 1 0
    ∷ gives (crossed 0 8 3 (flat_reading 0 9 3 7)) 0 (minus 3) 0 9 3 7
    ∷ gives (crossed 0 8 3 (flat_reading 1 8 3 7)) 0 (minus 3) 1 8 3 7
    ∷ gives (crossed 0 8 3 (flat_reading 1 9 4 7)) 0 (minus 3) 1 9 4 7
    -- what is no registration: 13, the status word as it was, and the record as it came
    ∷ gives (crossed 3 8 3 (flat_reading 1 9 3 7)) 13 9 1 9 3 7
    ∷ []

abbrev pub RecordCrosses : Type 0
RecordCrosses = T (every cases)

-- Sessions of answered calls (document 02, M-110), in words, cited by the contracts of `start`, `feed` and `end`: the calls that a replay makes are
-- those of the platform,
-- one after the other over the same memory, registration and reading record.
use Rattle.std.specs.Prelude.{ℕ, Bool, List, [], ◌∷◌, ◌++◌, T, eqb, get_or, replicate}
use Rattle.words.specs.Claims.Cases.{every}
use Rattle.words.specs.Numbers.{be32, word_bytes}
use Rattle.journal.specs.Claims.Journal.{short}
use Rattle.dump.specs.Claims.Dump.{from, bare, asked}
use Rattle.calls.specs.Claims.Terms.{minus}
use Rattle.calls.specs.Cases.Readings.{inventory_of}
use Rattle.trace.specs.declared.report.Report.TheVariants.{Agreed, Differs, Malformed}
use Rattle.trace.specs.Playing.{State, replay_of}
use Rattle.trace.specs.Cases.Trace.{alike, before, after, setting}

-- over a journal with a delete, an inventory of two sensors of type 9, the edition 5 and 4,300 zeros
abbrev pub session : List ℕ → State
session trace = replay_of (record { journal = short 8 1 10; inventory = inventory_of (3 ∷ 3 ∷ []); edition = record { 0 = 5 } }) (replicate 4300 0) trace

-- a call by the words of its buffer, before and after
abbrev pub made : List ℕ → List ℕ → List ℕ
made words left = before (word_bytes words) ++ after (word_bytes left)

-- update-nodes of scope 1 at address 0
abbrev pub updates : ℕ → List ℕ
updates status = made (1 ∷ 2 ∷ 1 ∷ 0 ∷ 1 ∷ 9 ∷ []) (1 ∷ 2 ∷ 1 ∷ 0 ∷ 1 ∷ status ∷ [])

-- get-indices with room for one sensor, from a Starting Number on
abbrev pub lists : ℕ → ℕ → ℕ → List ℕ
lists number status next = made (2 ∷ 5 ∷ 2 ∷ 1 ∷ 9 ∷ 4096 ∷ 16 ∷ number ∷ 9 ∷ 9 ∷ []) (2 ∷ 5 ∷ 2 ∷ 1 ∷ 9 ∷ 4096 ∷ 16 ∷ number ∷ status ∷ next ∷ [])

-- a structure of 80 bytes is set at address 4200, and registered
abbrev pub places : List ℕ
places = setting (104 ∷ 16 ∷ 0 ∷ 0 ∷ from 40 (bare 1 40) (asked 1))

abbrev pub registers : ℕ → List ℕ
registers status = made (3 ∷ 3 ∷ 1 ∷ 1 ∷ 4200 ∷ 80 ∷ 9 ∷ []) (3 ∷ 3 ∷ 1 ∷ 1 ∷ 4200 ∷ 80 ∷ status ∷ [])

abbrev pub whole : List ℕ
whole = updates 0 ++ (lists 1 1 2 ++ (lists 2 0 1 ++ (places ++ (registers 0 ++ registers (minus 9)))))

-- byte 0 of the area's terminator, where a 34 put a 1
abbrev pub marked : List ℕ → List ℕ
marked rest = setting (24 ∷ 0 ∷ 0 ∷ 0 ∷ 1 ∷ []) ++ rest

abbrev pub cases : List Bool
cases =
    -- every call agrees, and leaves its area: a delete; the reading in progress and the registration go from call to call
    alike (session whole).report (Agreed 5)
    ∷ eqb (be32 (session whole).memory 16) 0x0100_0001
    ∷ alike (session (places ++ (registers 0 ++ registers 0))).report (Differs 2 24)
    -- "Memory keeps what was done before the stop": a call that differs has been made, and one without its 33 has not
    ∷ alike (session (marked (updates 1))).report (Differs 1 23)
    ∷ eqb (get_or (session (marked (updates 1))).memory 24 0) 0
    ∷ alike (session (marked (before (word_bytes (1 ∷ 2 ∷ 1 ∷ 0 ∷ 1 ∷ 9 ∷ [])) ++ places))).report (Malformed 2)
    ∷ eqb (get_or (session (marked (before (word_bytes (1 ∷ 2 ∷ 1 ∷ 0 ∷ 1 ∷ 9 ∷ [])) ++ places))).memory 24 0) 1
    ∷ []

abbrev pub SessionReadings : Type 0
SessionReadings = T (every cases)

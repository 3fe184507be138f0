-- Readings of a replay on both sides of its lines (document 02, M-110), cited by the contracts of `start`, `feed` and `end`. Each case is a trace and
-- its report,
-- over an empty journal and inventory and a memory of eight zeros.
use Rattle.std.specs.Prelude.{ℕ, Bool, false, ◌&&◌, List, [], ◌∷◌, ◌++◌, T, eqb, take, replicate}
use Rattle.words.specs.Claims.Cases.{every}
use Rattle.words.specs.Numbers.{word_bytes}
use Rattle.dump.specs.Registration.{no_registration}
use Rattle.calls.specs.ReadingRecord.{no_reading}
use Rattle.calls.specs.Claims.Terms.{minus}
use Rattle.trace.specs.declared.report.Report.{Report}
use Rattle.trace.specs.declared.report.Report.TheVariants.{Agreed, Differs, Malformed}
use Rattle.trace.specs.Playing.{Waiting, none, State, step, replay_of}
use Rattle.trace.specs.Claims.Recording.{record_of}

abbrev pub alike : Report → Report → Bool
alike (Agreed a) (Agreed b) = eqb a b
alike (Agreed a) (Differs c k) = false
alike (Agreed a) (Malformed n) = false
alike (Differs a i) (Agreed b) = false
alike (Differs a i) (Differs b k) = eqb a b && eqb i k
alike (Differs a i) (Malformed n) = false
alike (Malformed a) (Agreed b) = false
alike (Malformed a) (Differs b k) = false
alike (Malformed a) (Malformed b) = eqb a b

-- the replay over eight bytes of memory
abbrev pub tells : List ℕ → Report → Bool
tells trace report = alike (replay_of (record { journal = []; inventory = []; edition = record { 0 = 0 } }) (replicate 8 0) trace).report report

-- one record more after so many and what waits
abbrev pub at_limit : ℕ → Waiting → List ℕ → Report → Bool
at_limit n w r report =
    let s : State = record { records = n; report = Agreed 0; waiting = w; memory = []; registration = no_registration; reading = no_reading } in
    alike (step (record { journal = []; inventory = []; edition = record { 0 = 0 } }) s r).report report

-- ---- records in bytes

-- a call with an empty argument buffer, which is left empty
abbrev pub empty : List ℕ
empty = 2 ∷ 0 ∷ 32 ∷ 0 ∷ 2 ∷ 0 ∷ 33 ∷ 0 ∷ []

-- a 34 that sets two bytes from address 4 on
abbrev pub two : List ℕ
two = 8 ∷ 0 ∷ 34 ∷ 0 ∷ 4 ∷ 0 ∷ 0 ∷ 0 ∷ 9 ∷ 9 ∷ []

-- ---- records by kind and body

abbrev pub before : List ℕ → List ℕ
before args = record_of 32 args

abbrev pub after : List ℕ → List ℕ
after args = record_of 33 args

abbrev pub setting : List ℕ → List ℕ
setting body = record_of 34 body

-- an argument buffer with token 9, which no call has, and this status word
abbrev pub unknown : ℕ → List ℕ
unknown status = word_bytes (9 ∷ 0 ∷ 1 ∷ status ∷ [])

abbrev pub good : List ℕ
good = before (unknown 7) ++ after (unknown (minus 3))

abbrev pub wrong : List ℕ
wrong = before (unknown 7) ++ after (unknown (minus 4))

abbrev pub cases : List Bool
cases =
    tells good (Agreed 1)
    -- a difference in a byte, and in length
    ∷ tells wrong (Differs 1 15)
    ∷ tells (before (7 ∷ 8 ∷ []) ++ after (7 ∷ [])) (Differs 1 1)
    -- a 32 without a good 33 right after it: its own number; any other 33, here after a 34, which counts as a record
    ∷ tells (before [] ++ (two ++ after [])) (Malformed 1)
    ∷ tells (two ++ after []) (Malformed 2)
    -- other kinds, a length under 2, a record that the end cuts off
    ∷ tells (record_of 35 []) (Malformed 1)
    ∷ tells (1 ∷ 0 ∷ 32 ∷ []) (Malformed 1)
    ∷ tells (empty ++ take 7 two) (Malformed 3)
    -- bodies of 4,100 bytes and 4,101, the second judged by its length
    ∷ tells (before (replicate 4100 0) ++ after (replicate 4100 0)) (Agreed 1)
    ∷ tells (before (replicate 4101 0)) (Malformed 1)
    -- a 34 of 4 bytes; its bytes end at the end of memory, and one past it
    ∷ tells (setting (0 ∷ 0 ∷ 0 ∷ 0 ∷ [])) (Malformed 1)
    ∷ tells (setting (7 ∷ 0 ∷ 0 ∷ 0 ∷ 9 ∷ [])) (Agreed 0)
    ∷ tells (setting (7 ∷ 0 ∷ 0 ∷ 0 ∷ 9 ∷ 9 ∷ [])) (Malformed 1)
    -- "any record after number 4,294,967,295"
    ∷ at_limit 0xffff_fffe none (before []) (Agreed 0)
    ∷ at_limit 4_294_967_295 none (before []) (Malformed 4_294_967_296)
    -- a difference before a malformed record
    ∷ tells (wrong ++ after []) (Differs 1 15)
    ∷ []

abbrev pub TraceReadings : Type 0
TraceReadings = T (every cases)

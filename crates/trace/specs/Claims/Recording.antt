-- A session of ours recorded as a trace (document 02, M-110).
use Rattle.std.specs.Prelude.{ℕ, zero, suc, ◌+◌, ◌/◌, ◌%◌, ◌≤◌, ◌<◌, ◌≡◌, List, [], ◌∷◌, ◌++◌, length}
use Rattle.std.proofs.lemmas.List.Edits.{sets}
use Rattle.words.specs.Numbers.{Bytes}
use Rattle.dump.specs.declared.registration.Registration.{Registration}
use Rattle.dump.specs.Registration.{no_registration}
use Rattle.calls.specs.declared.reading_record.ReadingRecord.{ReadingRecord}
use Rattle.calls.specs.ReadingRecord.{no_reading}
use Rattle.calls.specs.Buffer.{Left}
use Rattle.trace.specs.declared.report.Report.TheVariants.{Agreed, Differs}
use Rattle.trace.specs.Playing.{Platform, call_over, replay_of}
use Rattle.trace.specs.Claims.First.{DifferAt}

-- a number in so many bytes, little-endian
unfoldable pub le_bytes : ℕ → ℕ → List ℕ
le_bytes zero v = []
le_bytes (suc w) v = v % 256 ∷ le_bytes w (v / 256)

-- "our usual records, numbers little-endian"
unfoldable pub record_of : ℕ → List ℕ → List ℕ
record_of kind body = le_bytes 2 (length body + 2) ++ (le_bytes 2 kind ++ body)

-- what is done to a partition: bytes of its memory are set, or it makes a call
pub data Deed : Type 0 where
  sets_memory : ℕ → List ℕ → Deed
  makes_call : List ℕ → Deed

-- what a partition has
pub record Machine : Type 0 where
  pub memory : List ℕ
  pub registration : Registration
  pub reading : ReadingRecord

abbrev pub fresh : List ℕ → Machine
fresh m = record { memory = m; registration = no_registration; reading = no_reading }

abbrev pub left_by : Platform → Machine → List ℕ → Left
left_by p s args = call_over p s.memory s.registration s.reading args

abbrev pub after : Platform → Machine → Deed → Machine
after p s (sets_memory a bs) = record { memory = sets s.memory a bs; registration = s.registration; reading = s.reading }
after p s (makes_call args) =
    record { memory = (left_by p s args).memory; registration = (left_by p s args).registration; reading = (left_by p s args).reading }

abbrev pub after_all : Platform → Machine → List Deed → Machine
after_all p s [] = s
after_all p s (d ∷ ds) = after_all p (after p s d) ds

-- the records of a deed: a 34; or a 32 and the 33 with the buffer that our call leaves
abbrev pub recorded : Platform → Machine → Deed → List ℕ
recorded p s (sets_memory a bs) = record_of 34 (le_bytes 4 a ++ bs)
recorded p s (makes_call args) = record_of 32 args ++ record_of 33 (left_by p s args).args

unfoldable pub trace_of : Platform → Machine → List Deed → List ℕ
trace_of p s [] = []
trace_of p s (d ∷ ds) = recorded p s d ++ trace_of p (after p s d) ds

-- how many records and calls there are
unfoldable pub records_in : List Deed → ℕ
records_in [] = 0
records_in (sets_memory a bs ∷ ds) = 1 + records_in ds
records_in (makes_call args ∷ ds) = 2 + records_in ds

unfoldable pub calls_in : List Deed → ℕ
calls_in [] = 0
calls_in (sets_memory a bs ∷ ds) = calls_in ds
calls_in (makes_call args ∷ ds) = 1 + calls_in ds

-- memory settings of 1 to 4,096 bytes at an address of four bytes, inside memory, and argument buffers of at most 4,100 bytes
abbrev pub Fits : ℕ → Deed → Type 0
Fits size (sets_memory a bs) = (a < 0x1_0000_0000) × (1 ≤ length bs) × (length bs ≤ 4096) × (a + length bs ≤ size)
Fits size (makes_call args) = length args ≤ 4100

abbrev pub AllFit : ℕ → List Deed → Type 0
AllFit size [] = Unit {0}
AllFit size (d ∷ ds) = Fits size d × AllFit size ds

-- Whatever is done, the trace that our own calls make replays with all calls agreeing, and leaves what the calls left.
pub record Replays (p : Platform) (m : List ℕ) (ds : List Deed) : Type 0 where
  pub report : (replay_of p m (trace_of p (fresh m) ds)).report ≡ Agreed (calls_in ds)
  pub memory : (replay_of p m (trace_of p (fresh m) ds)).memory ≡ (after_all p (fresh m) ds).memory
  pub registration : (replay_of p m (trace_of p (fresh m) ds)).registration ≡ (after_all p (fresh m) ds).registration
  pub reading : (replay_of p m (trace_of p (fresh m) ds)).reading ≡ (after_all p (fresh m) ds).reading

abbrev pub OwnTraceAgrees : Type 0
OwnTraceAgrees = (p : Platform) (m : List ℕ) (ds : List Deed) → AllFit (length m) ds → records_in ds ≤ 4_294_967_295 → Replays p m ds

-- The other way round: a trace of bytes that replays with all calls agreeing is one that our own calls make.
pub record Ours (p : Platform) (m trace : List ℕ) (calls : ℕ) : Type 0 where
  pub deeds : List Deed
  pub fit : AllFit (length m) deeds
  pub few : records_in deeds ≤ 4_294_967_295
  pub counted : calls_in deeds ≡ calls
  pub made : trace ≡ trace_of p (fresh m) deeds

abbrev pub AgreedIsOurs : Type 0
AgreedIsOurs = (p : Platform) (m trace : List ℕ) (calls : ℕ) → Bytes trace → (replay_of p m trace).report ≡ Agreed calls → Ours p m trace calls

-- And a trace that goes astray: behind whatever our own calls made comes a call whose recorded buffer is not ours, with anything behind it. The
-- difference is told.
abbrev pub DifferenceTold : Type 0
DifferenceTold =
    (p : Platform) (m : List ℕ) (ds : List Deed) (args recorded rest : List ℕ) → AllFit (length m) ds → records_in ds + 2 ≤ 4_294_967_295
    → length args ≤ 4100 → length recorded ≤ 4100
    → let ours = (left_by p (after_all p (fresh m) ds) args).args in
    (recorded ≡ ours → ⊥)
    → (offset : ℕ) × (DifferAt recorded ours offset
    × ((replay_of p m (trace_of p (fresh m) ds ++ (record_of 32 args ++ (record_of 33 recorded ++ rest)))).report
    ≡ Differs (calls_in ds + 1) offset))

-- A whole trace at the C boundary (document 02, M-110): a start, bursts that are cut anywhere, and an end. Cited by the contracts of all three.
use Rattle.std.specs.Prelude.{ℕ, ◌≤◌, ◌≡◌, List, [], ◌∷◌, ◌++◌, length, replicate}
use Rattle.crossing.specs.Registration.{registration_of}
use Rattle.crossing.specs.Record.{reading_of}
use Rattle.records.specs.Cutting.{start, fed}
use Rattle.trace.specs.Playing as paper
use Rattle.playing.specs.Lent.{lender}
use Rattle.replay_states.specs.declared.state.FlatReplay.{FlatReplay}
use Rattle.draugsten_replay.specs.declared.feeding.FlatFed.{FlatFed}
use Rattle.replay_states.specs.States.{flat_report, flat_report_of}
use Rattle.draugsten_replay.specs.Feeding.{platform, standing_in, FlatFeeds, flat_start, flat_end_of}

-- a burst, its answer, and the buffers and memory that it left
pub record Burst : Type 0 where
  pub bytes : List ℕ
  pub answer : FlatFed
  pub held : List ℕ
  pub args : List ℕ
  pub memory : List ℕ

-- Bursts one after the other, each over what the one before it left.
abbrev pub Fed : List ℕ → List ℕ → List ℕ → List ℕ → List ℕ → FlatReplay → List Burst → Type 0
Fed journal inventory held args memory f [] = Unit {0}
Fed journal inventory held args memory f (b ∷ bs) =
    FlatFeeds journal inventory held args memory f b.bytes b.held b.args b.memory b.answer
    × Fed journal inventory b.held b.args b.memory b.answer.replay bs

abbrev pub trace_in : List Burst → List ℕ
trace_in [] = []
trace_in (b ∷ bs) = b.bytes ++ trace_in bs

abbrev pub last_replay : FlatReplay → List Burst → FlatReplay
last_replay f [] = f
last_replay f (b ∷ bs) = last_replay b.answer.replay bs

abbrev pub last_memory : List ℕ → List Burst → List ℕ
last_memory m [] = m
last_memory m (b ∷ bs) = last_memory b.memory bs

abbrev pub last_held : List ℕ → List Burst → List ℕ
last_held held [] = held
last_held held (b ∷ bs) = last_held b.held bs

abbrev pub last_args : List ℕ → List Burst → List ℕ
last_args args [] = args
last_args args (b ∷ bs) = last_args b.args bs

abbrev pub AllTaken : List Burst → Type 0
AllTaken [] = Unit {0}
AllTaken (b ∷ bs) = (b.answer.number ≡ 0) × AllTaken bs

-- No burst is refused; after them all stands as after the same bytes as one burst, with the lent argument buffer; and the end tells the report of the
-- whole trace.
-- Memory, registration and reading record are those that its replay leaves.
pub record Whole (p : paper.Platform) (f : FlatReplay) (held argsBefore args memoryBefore memory : List ℕ) (bs : List Burst) (s : paper.State) : Type 0 where
  pub taken : AllTaken bs
  pub stands : standing_in held args memory f ≡ fed (paper.reader p) (start (paper.begin memoryBefore)) (trace_in bs)
  pub lent : args ≡ (fed (lender p) (start (record { state = paper.begin memoryBefore; args = argsBefore })) (trace_in bs)).state.args
  pub told : flat_end_of f ≡ record { number = 0; report = flat_report_of s.report }
  pub memory_is : memory ≡ s.memory
  pub registration_is : registration_of f.registration ≡ s.registration
  pub reading_is : reading_of f.reading ≡ s.reading

abbrev pub WholeTrace : Type 0
WholeTrace =
    (journal inventory held args memory : List ℕ) (edition : ℕ) (bs : List Burst) → 4104 ≤ length held → 4100 ≤ length args
    → Fed journal inventory held args memory (flat_start edition) bs
    → let p = platform journal inventory edition in
    Whole p (last_replay (flat_start edition) bs) (last_held held bs) args (last_args args bs) memory (last_memory memory bs) bs
    (paper.replay_of p memory (trace_in bs))

-- ---- a trace of one call with an empty argument buffer, cut inside its first record

abbrev pub begun : ℕ → ℕ → ℕ → FlatReplay
begun records calls held =
    record {
      records = records;
      report = flat_report 0 0 calls;
      held = held;
      waiting = 0;
      edition = 7;
      registration = record { phase = 0; length = 0; copy = replicate 512 0 };
      reading = record { flag = 0; item_type = 0; number = 1; edition = 0 };
    }

abbrev pub first : Burst
first = record {
  bytes = 2 ∷ 0 ∷ 32 ∷ [];
  answer = record { number = 0; replay = begun 0 0 3 };
  held = 2 ∷ 0 ∷ 32 ∷ replicate 4101 9;
  args = replicate 4100 9;
  memory = [];
}

abbrev pub second : Burst
second =
    record {
      bytes = 0 ∷ 2 ∷ 0 ∷ 33 ∷ 0 ∷ [];
      answer = record { number = 0; replay = begun 2 1 0 };
      held = 2 ∷ 0 ∷ 32 ∷ 0 ∷ replicate 4100 9;
      args = replicate 4100 9;
      memory = [];
    }

-- so that what is claimed of a whole trace is claimed of something
abbrev pub WholeTraceWitness : Type 0
WholeTraceWitness = Fed [] [] (replicate 4104 9) (replicate 4100 9) [] (flat_start 7) (first ∷ second ∷ [])

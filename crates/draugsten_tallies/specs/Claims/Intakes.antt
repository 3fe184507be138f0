-- What is claimed of the definitions of `Intakes`.
use Rattle.std.specs.Prelude.{ℕ, ◌+◌, ◌≤◌, ◌<◌, ◌≡◌, true, false, List, [], length, take, Some, None}
use Rattle.std.proofs.lemmas.List.Edits.{sets}
use Rattle.words.specs.Claims.Exactly.{Exactly}
use Rattle.records.specs.Records.{length_of, kind_of, size_of}
use Rattle.records.specs.Cutting.{Standing, start, fed}
use Rattle.tallies.specs.declared.keeping.Tallied.{Tallied}
use Rattle.tallies.specs.declared.keeping.Refusal.TheVariants.{Malformed, NoRoom, Unfit}
use Rattle.tallies.specs.Keeping.{fits, append_of}
use Rattle.tallies.specs.Sessions as sessions
use Rattle.tallies.specs.Claims.Sessions as sessions-claims
use Rattle.intake.specs.declared.bursts.Intake.{Intake}
use Rattle.intake.specs.Taking.{good_front, Taking, reader}
use Rattle.intake.specs.Bursts.{stands_at, standing_of, Ready, completed, start_of}
use Rattle.draugsten_tallies.specs.declared.flat.FlatTallied.{FlatTallied}
use Rattle.draugsten_tallies.specs.declared.intakes.FlatIntake.{FlatIntake}
use Rattle.draugsten_tallies.specs.declared.intakes.FlatBurst.{FlatBurst}
use Rattle.draugsten_tallies.specs.declared.intakes.FlatEnd.{FlatEnd}
use Rattle.draugsten_tallies.specs.Flat.{tallied_from}
use Rattle.draugsten_tallies.specs.Claims.Flat.{TalliedCross}
use Rattle.draugsten_tallies.specs.Intakes.{flat_intake, intake_from, state_number, FlatBursts, end_answer}

-- ---- claims

-- each part crosses under its own name
pub record IntakeCrosses (i : Intake) (f : FlatIntake) : Type 0 where
  pub journal : TalliedCross i.place.journal f.journal
  pub number : f.number ≡ i.place.number
  pub held : f.held ≡ i.held
  pub none : Exactly (i.place.fault ≡ None) (f.fault ≡ 0)
  pub malformed : Exactly (i.place.fault ≡ Some Malformed) (f.fault ≡ 50)
  pub no_room : Exactly (i.place.fault ≡ Some NoRoom) (f.fault ≡ 51)

abbrev pub EachIntakeCrosses : Type 0
EachIntakeCrosses = (i : Intake) → IntakeCrosses i (flat_intake i)

-- what crossed comes back
abbrev pub IntakeReturns : Type 0
IntakeReturns = (i : Intake) → intake_from (flat_intake i) ≡ i

-- and each part comes in under its own name
abbrev pub EachIntakeComes : Type 0
EachIntakeComes = (f : FlatIntake) → IntakeCrosses (intake_from f) f

-- any other number becomes Unfit, which no stream reports
abbrev pub FaultsTaken : Type 0
FaultsTaken = (f : FlatIntake) → (f.fault ≡ 0 → ⊥) → (f.fault ≡ 50 → ⊥) → (f.fault ≡ 51 → ⊥) → (intake_from f).place.fault ≡ Some Unfit

-- nothing held, number 1, no fault. DECISIONS: "A start is not refused: over a use and tallies that do not fit, its first burst is (54)."
pub record Starts (t : FlatTallied) (f : FlatIntake) : Type 0 where
  pub journal : f.journal ≡ t
  pub number : f.number ≡ 1
  pub held : f.held ≡ 0
  pub fault : f.fault ≡ 0

abbrev pub EachStart : Type 0
EachStart = (t : FlatTallied) → Starts t (flat_intake (start_of (tallied_from t)))

-- which states and stores are refused, and with which number
pub record StateExactly (buffer store : List ℕ) (i : Intake) : Type 0 where
  pub small : Exactly (state_number store (length buffer) i ≡ 55) (length store < 32_808)
  pub taken : Exactly (state_number store (length buffer) i ≡ 0) (Ready buffer store i)
  pub unfit : Exactly (state_number store (length buffer) i ≡ 54) ((32_808 ≤ length store) × (Ready buffer store i → ⊥))

abbrev pub EachState : Type 0
EachState = (buffer store : List ℕ) (i : Intake) → StateExactly buffer store i

-- A start over a journal that fits its buffer is taken, and so is what a burst leaves.
abbrev pub StartTaken : Type 0
StartTaken = (buffer store : List ℕ) (t : Tallied) → 32_808 ≤ length store → fits (length buffer) t ≡ true → state_number store (length buffer) (start_of t) ≡ 0

abbrev pub LeftTaken : Type 0
LeftTaken = (buffer store bufferThen storeThen bytes : List ℕ) (i : FlatIntake) (r : FlatBurst) → state_number store (length buffer) (intake_from i) ≡ 0
    → FlatBursts buffer store i bytes bufferThen storeThen r → state_number storeThen (length bufferThen) (intake_from r.intake) ≡ 0

-- DECISIONS: "a use beyond the buffer, or a count above the use, is refused before both": exactly what an append calls unfit
abbrev pub FitsAsAppend : Type 0
FitsAsAppend = (buffer r : List ℕ) (t : Tallied) → Exactly (fits (length buffer) t ≡ false) ((append_of buffer t r).outcome ≡ Some Unfit)

-- A start over tallies that are kept is taken.
abbrev pub KeptTaken : Type 0
KeptTaken = (store : List ℕ) (s : sessions.Standing) → 32_808 ≤ length store → sessions-claims.Counted s
    → state_number store (length s.buffer) (start_of s.journal) ≡ 0

-- DECISIONS: "An append, join or clear between bursts works on use, tallies and journal alone": with any other journal that fits, the state is taken as before
abbrev pub JournalChanged : Type 0
JournalChanged = (buffer bufferThen store : List ℕ) (f : FlatIntake) (t : FlatTallied) → state_number store (length buffer) (intake_from f) ≡ 0
    → fits (length bufferThen) (tallied_from t) ≡ true
    → state_number store (length bufferThen) (intake_from (record { journal = t; number = f.number; held = f.held; fault = f.fault })) ≡ 0

-- DECISIONS: "54 a state that no start or burst leaves": each part that does not fit, alone
pub record Misfits (buffer store : List ℕ) (f : FlatIntake) (number : ℕ) : Type 0 where
  pub no_number : f.number ≡ 0 → number ≡ 54
  pub no_fault : (f.fault ≡ 0 → ⊥) → (f.fault ≡ 50 → ⊥) → (f.fault ≡ 51 → ⊥) → number ≡ 54
  pub fault_held : (f.fault ≡ 0 → ⊥) → (f.held ≡ 0 → ⊥) → number ≡ 54
  pub too_many : length store < f.held → number ≡ 54
  pub whole : good_front (length_of (take f.held store)) (kind_of (take f.held store)) ≡ true → size_of (take f.held store) ≤ f.held → number ≡ 54
  pub front : 4 ≤ f.held → good_front (length_of (take f.held store)) (kind_of (take f.held store)) ≡ false → number ≡ 54
  pub unfit : (append_of buffer (tallied_from f.journal) []).outcome ≡ Some Unfit → number ≡ 54

abbrev pub EachMisfit : Type 0
EachMisfit = (buffer store : List ℕ) (f : FlatIntake) → 32_808 ≤ length store → Misfits buffer store f (state_number store (length buffer) (intake_from f))

-- what a burst tells, of the standing that the reader of records says, with every byte of both buffers
pub record BurstTells (store : List ℕ) (i : FlatIntake) (bytes bufferThen storeThen : List ℕ) (r : FlatBurst) (w : Standing Taking) : Type 0 where
  pub none : Exactly (w.state.fault ≡ None) (r.number ≡ 0)
  pub malformed : Exactly (w.state.fault ≡ Some Malformed) (r.number ≡ 50)
  pub no_room : Exactly (w.state.fault ≡ Some NoRoom) (r.number ≡ 51)
  pub in_none : r.number ≡ 0 → r.in_record ≡ 0
  pub in_fault : (r.number ≡ 0 → ⊥) → r.in_record ≡ w.state.number
  pub again : r.intake.fault ≡ r.number
  pub next : r.intake.number ≡ w.state.number
  pub held : take r.intake.held storeThen ≡ w.held
  pub store_is : storeThen ≡ sets (completed store i.held bytes) 0 w.held
  pub kept : (i.fault ≡ 0 → ⊥) → storeThen ≡ store
  pub buffer_is : bufferThen ≡ w.state.buffer
  pub journal : TalliedCross w.state.journal r.intake.journal

abbrev pub EachBurst : Type 0
EachBurst = (buffer store bytes bufferThen storeThen : List ℕ) (i : FlatIntake) (r : FlatBurst) → FlatBursts buffer store i bytes bufferThen storeThen r
    → state_number store (length buffer) (intake_from i) ≡ 0
    → BurstTells store i bytes bufferThen storeThen r (fed reader (standing_of buffer store (intake_from i)) bytes)

-- a reader starts with nothing held, and stands where its state and the held bytes say; a record's size is its length and two
pub record StartsExactly : Type 0 where
  pub starts : (s : Taking) → start s ≡ record { state = s; held = [] }
  pub stands : (s : Taking) (held : List ℕ) → stands_at s held ≡ record { state = s; held = held }
  pub size : (b : List ℕ) → size_of b ≡ length_of b + 2

-- "and changes nothing"
abbrev pub EachBurstRefused : Type 0
EachBurstRefused = (buffer store bytes bufferThen storeThen : List ℕ) (i : FlatIntake) (r : FlatBurst)
    → FlatBursts buffer store i bytes bufferThen storeThen r → (state_number store (length buffer) (intake_from i) ≡ 0 → ⊥)
    → (r.number ≡ state_number store (length buffer) (intake_from i))
    × ((r.in_record ≡ 0) × ((r.intake ≡ i) × ((bufferThen ≡ buffer) × (storeThen ≡ store))))

-- what an end answers, refused states and stores first
pub record EndAnswers (buffer store : List ℕ) (f : FlatIntake) (r : FlatEnd) : Type 0 where
  pub small : length store < 32_808 → (r.number ≡ 55) × (r.in_record ≡ 0)
  pub unfit : 32_808 ≤ length store → (Ready buffer store (intake_from f) → ⊥) → (r.number ≡ 54) × (r.in_record ≡ 0)
  pub nothing : Ready buffer store (intake_from f) → f.fault ≡ 0 → f.held ≡ 0 → (r.number ≡ 0) × (r.in_record ≡ 0)
  pub unfinished : Ready buffer store (intake_from f) → f.fault ≡ 0 → (f.held ≡ 0 → ⊥) → (r.number ≡ 53) × (r.in_record ≡ f.number)
  pub malformed : Ready buffer store (intake_from f) → f.fault ≡ 50 → (r.number ≡ 50) × (r.in_record ≡ f.number)
  pub no_room : Ready buffer store (intake_from f) → f.fault ≡ 51 → (r.number ≡ 51) × (r.in_record ≡ f.number)

abbrev pub EachEndAnswer : Type 0
EachEndAnswer = (buffer store : List ℕ) (f : FlatIntake) → EndAnswers buffer store f (end_answer (length buffer) store f)

pub record IntakeCrossing : Type 0 where
  pub each_crosses : EachIntakeCrosses
  pub each_comes : EachIntakeComes
  pub returns : IntakeReturns
  pub faults_taken : FaultsTaken
  pub each_start : EachStart
  pub each_state : EachState
  pub each_misfit : EachMisfit
  pub fits_as_append : FitsAsAppend
  pub start_taken : StartTaken
  pub kept_taken : KeptTaken
  pub left_taken : LeftTaken
  pub journal_changed : JournalChanged
  pub each_burst : EachBurst
  pub starts_exactly : StartsExactly
  pub each_burst_refused : EachBurstRefused
  pub each_end : EachEndAnswer

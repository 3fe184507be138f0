-- What is claimed of an intake, cited by the contracts of `start`, `burst` and `end` (document 02, M-109).
use Rattle.std.specs.Prelude.{ℕ, zero, suc, ◌+◌, ◌-◌, ◌≤◌, ◌<◌, ◌≡◌, true, false, cond, List, [], ◌++◌, ◌⊎◌, leb, length, take, drop, Option, Some, None}
use Rattle.std.proofs.lemmas.List.Edits.{sets}
use Rattle.words.specs.Numbers.{le}
use Rattle.words.specs.Claims.Exactly.{Exactly}
use Rattle.records.specs.Records.{length_of, kind_of, size_of, first_record, records, all_good}
use Rattle.records.specs.Claims.Records.{FedExactly}
use Rattle.records.specs.Cutting.{due, Standing, run, start, fed, fed_all, joined}
use Rattle.journal.specs.Journal.{good_record}
use Rattle.tallies.specs.declared.keeping.Tallied.{Tallied}
use Rattle.tallies.specs.declared.keeping.Refusal.{Refusal}
use Rattle.tallies.specs.declared.keeping.Refusal.TheVariants as refusal
use Rattle.tallies.specs.Keeping.{Left, fits}
use Rattle.tallies.specs.Claims.Tallies.{OneGood, AttachedExactly}
use Rattle.tallies.specs.Claims.Sessions as sessions
use Rattle.intake.specs.declared.bursts.Ending.TheVariants as ending
use Rattle.intake.specs.declared.bursts.Intake.{Intake}
use Rattle.intake.specs.Taking.{good_front, Taking, stopped, step, reader}
use Rattle.intake.specs.Bursts.{stands_at, standing_of, Ready, start_of, end_at, end_of, bursting, completed}
use Rattle.intake.specs.Cases.Readings.{IntakeReadings}

-- ---- any cutting

-- "For every way of cutting, including bursts of nothing": every byte of the journal's buffer, its use, the tallies, the first fault with its number,
-- and what is held, by
-- which an end goes, are those of the same bytes given as one burst.
abbrev pub AnyCutting : Type 0
AnyCutting = (s : Taking) (bs : List (List ℕ)) → fed_all reader (start s) bs ≡ fed reader (start s) (joined bs)

-- the same from any standing between bursts
abbrev pub BurstsJoin : Type 0
BurstsJoin = (w : Standing Taking) (a b : List ℕ) → fed reader (fed reader w a) b ≡ fed reader w (a ++ b)

-- ---- one burst, record by record, as `records` cuts good ones

-- The record in front is judged by its first four bytes, also where its length is 0 or 1: it is refused with these four, or taken once it is whole,
-- and the bytes behind it
-- go on, or all bytes are held. Nothing is held once a fault was met. At most n records.
unfoldable pub arrived : ℕ → Taking → List ℕ → Standing Taking
arrived zero s b = stands_at s b
arrived (suc n) s b =
    let later = arrived n (step s (first_record b)) (drop (size_of b) b) in
    let rest = cond (leb (size_of b) (length b)) later (stands_at s b) in
    let front = cond (good_front (length_of b) (kind_of b)) rest (start (step s (take 4 b))) in
    cond (stopped s) (start s) (cond (leb 4 (length b)) front (stands_at s b))

abbrev pub RecordByRecord : Type 0
RecordByRecord = (s : Taking) (b : List ℕ) → fed reader (start s) b ≡ arrived (suc (length b)) s b

abbrev pub GoodOnes : Type 0
GoodOnes = (s : Taking) (b : List ℕ) → all_good good_record (records b) ≡ true → fed reader (start s) b ≡ start (run step s (records b))

-- ---- each record exactly when

-- "A record's length and kind are judged when its first four bytes are in": those that some good record has
abbrev pub Fronts : ℕ → ℕ → Type 0
Fronts len kind =
    ((kind ≡ 1) × (len ≡ 8)) ⊎ (((kind ≡ 2) × (len ≡ 8)) ⊎ (((kind ≡ 3) × (len ≡ 12)) ⊎ (((kind ≡ 4) × (len ≡ 16))
    ⊎ (((kind ≡ 5) × ((8 ≤ len) × (len ≤ 32_806))) ⊎ ((kind ≡ 6) × ((8 ≤ len) × (len ≤ 38)))))))

abbrev pub FrontExactly : Type 0
FrontExactly = (len kind : ℕ) → Exactly (good_front len kind ≡ true) (Fronts len kind)

-- what an intake leaves of its journal, with the fault as the outcome
abbrev pub left_of : Taking → Left
left_of x = record { buffer = x.buffer; next = x.journal; outcome = x.fault }

-- a complete record: as an append, and the number goes on by one, up to 2^64 - 1
pub record StepExactly (s : Taking) (r : List ℕ) (x : Taking) : Type 0 where
  pub attached : AttachedExactly (OneGood r) s.buffer s.journal r (left_of x)
  pub next : x.fault ≡ None → s.number < 0xffff_ffff_ffff_ffff → x.number ≡ s.number + 1
  pub last : x.fault ≡ None → s.number ≡ 0xffff_ffff_ffff_ffff → x.number ≡ s.number
  pub at_fault : (x.fault ≡ None → ⊥) → x.number ≡ s.number

abbrev pub EachStep : Type 0
EachStep = (s : Taking) (r : List ℕ) → s.fault ≡ None → StepExactly s r (step s r)

-- bytes under four, with a front that is refused, with one that waits for the rest, and with a complete record
pub record Judged (s : Taking) (b : List ℕ) : Type 0 where
  pub short : length b < 4 → fed reader (start s) b ≡ stands_at s b
  pub front : 4 ≤ length b → good_front (length_of b) (kind_of b) ≡ false
      → fed reader (start s) b ≡ start (record { buffer = s.buffer; journal = s.journal; number = s.number; fault = Some refusal.Malformed })
  pub waits : 4 ≤ length b → good_front (length_of b) (kind_of b) ≡ true → length b < size_of b → fed reader (start s) b ≡ stands_at s b
  pub complete : 4 ≤ length b → good_front (length_of b) (kind_of b) ≡ true → size_of b ≤ length b
      → fed reader (start s) b ≡ fed reader (start (step s (first_record b))) (drop (size_of b) b)

abbrev pub EachJudged : Type 0
EachJudged = (s : Taking) (b : List ℕ) → s.fault ≡ None → fits (length s.buffer) s.journal ≡ true → Judged s b

-- "after either, every burst and the end get the same refusal and change nothing"
abbrev pub StopsForGood : Type 0
StopsForGood = (s : Taking) (b : List ℕ) → (s.fault ≡ None → ⊥) → fed reader (start s) b ≡ start s

-- ---- an end

pub record EndExactly (w : Standing Taking) : Type 0 where
  pub nothing : w.state.fault ≡ None → w.held ≡ [] → end_at w ≡ ending.Nothing
  pub unfinished : w.state.fault ≡ None → (w.held ≡ [] → ⊥) → end_at w ≡ ending.Unfinished w.state.number
  pub malformed : w.state.fault ≡ Some refusal.Malformed → end_at w ≡ ending.Malformed w.state.number
  pub no_room : w.state.fault ≡ Some refusal.NoRoom → end_at w ≡ ending.NoRoom w.state.number

abbrev pub EachEnd : Type 0
EachEnd = (w : Standing Taking) → EndExactly w

-- what the code's end says is what an end says of its standing
pub record StandsExactly (buffer store : List ℕ) (i : Intake) : Type 0 where
  pub standing : standing_of buffer store i
      ≡ record {
        state = record { buffer = buffer; journal = i.place.journal; number = i.place.number; fault = i.place.fault };
        held = take i.held store;
      }
  pub step : (s : Taking) (r : List ℕ) → (reader.step s r ≡ step s r) × (reader.good (length_of r) (kind_of r) ≡ good_front (length_of r) (kind_of r))

abbrev pub EachStanding : Type 0
EachStanding = (buffer store : List ℕ) (i : Intake) → StandsExactly buffer store i

abbrev pub EndTells : Type 0
EndTells = (buffer store : List ℕ) (i : Intake) → Ready buffer store i → end_of i ≡ end_at (standing_of buffer store i)

-- ---- a start

-- it is ready over any tallied journal that fits its buffer, and stands at number 1 with nothing held and no fault
abbrev pub StartReady : Type 0
StartReady =
    (buffer store : List ℕ) (t : Tallied) → 32_808 ≤ length store → fits (length buffer) t ≡ true
    → Ready buffer store (start_of t)
    × (standing_of buffer store (start_of t) ≡ start (record { buffer = buffer; journal = t; number = 1; fault = None }))

-- ---- M-106's claim through any mixture of bursts, appends, joins and clears

abbrev pub BurstKeeps : Type 0
BurstKeeps = (held : List ℕ) (number : ℕ) (fault : Option Refusal) (bytes : List ℕ) → sessions.Keeps (bursting held number fault bytes)

-- The store after a burst, before what is held now: with nothing held it stays. Else the burst's bytes go after the held ones: those that are due to
-- the record or, if fewer than 18 are held, 18 or more came and no more than 18 are due, 18 of them. No other byte changes.
pub record StoreExactly (store bytes : List ℕ) (n : ℕ) : Type 0 where
  pub none : n ≡ 0 → completed store n bytes ≡ store
  pub due_bytes : 1 ≤ n → let missing = due good_front (take n store ++ bytes) - n in
      (18 ≤ n) ⊎ ((length bytes < 18) ⊎ (18 < missing)) → completed store n bytes ≡ sets store n (take missing bytes)
  pub eighteen : 1 ≤ n → n < 18 → 18 ≤ length bytes → due good_front (take n store ++ bytes) - n ≤ 18 → completed store n bytes ≡ sets store n (take 18 bytes)

abbrev pub EachStore : Type 0
EachStore = (store bytes : List ℕ) (n : ℕ) → StoreExactly store bytes n

pub record IntakeClaims : Type 0 where
  pub each_standing : EachStanding
  pub each_store : EachStore
  pub due_is : (r : List ℕ) → due good_front r ≡ 4 + cond (good_front (le 2 r 0) (le 2 r 2)) (le 2 r 0 - 2) 0
  pub fed_exactly : FedExactly reader
  pub any_cutting : AnyCutting
  pub bursts_join : BurstsJoin
  pub record_by_record : RecordByRecord
  pub good_ones : GoodOnes
  pub front_exactly : FrontExactly
  pub each_step : EachStep
  pub each_judged : EachJudged
  pub stops_for_good : StopsForGood
  pub each_end : EachEnd
  pub end_tells : EndTells
  pub start_ready : StartReady
  pub burst_keeps : BurstKeeps
  pub readings : IntakeReadings

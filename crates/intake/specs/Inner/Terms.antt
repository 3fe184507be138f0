-- Terms of the contracts of private functions; no public promise cites them.
use Rattle.std.specs.Prelude.{ℕ, ◌+◌, ◌-◌, ◌≤◌, ◌<◌, min, ◌≡◌, true, false, cond, List, ◌++◌, eqb, length, take, drop, Some, is_some}
use Rattle.std.proofs.lemmas.List.Edits.{sets}
use Rattle.records.specs.Records.{records, all_good, size_limit}
use Rattle.records.specs.Cutting.{due, ripe, run, start, fed}
use Rattle.journal.specs.Journal.{good_record}
use Rattle.stretch.specs.declared.steps.Stretch.{Stretch}
use Rattle.stretch.specs.Packed.{packed_of}
use Rattle.stretch.specs.Inner.Stretches.{nothing, Few}
use Rattle.tallies.specs.declared.keeping.Refusal.TheVariants as refusal
use Rattle.tallies.specs.Keeping.{fits}
use Rattle.intake.specs.declared.bursts.Intake.{Intake}
use Rattle.intake.specs.declared.bursts.Finished.{Finished}
use Rattle.intake.specs.declared.sweeping.Passed.{Passed}
use Rattle.intake.specs.declared.sweeping.Swept.{Swept}
use Rattle.intake.specs.declared.taking.Place.{Place}
use Rattle.intake.specs.Taking.{good_front, Taking, taking_of, step, reader}
use Rattle.intake.specs.Bursts.{stands_at, standing_of, Ready, completed}

-- what an intake that fits its buffer has between records
pub record Sound (s : Taking) : Type 0 where
  pub numbered : 1 ≤ s.number
  pub fit : fits (length s.buffer) s.journal ≡ true
  pub real : s.fault ≡ Some refusal.Unfit → ⊥

-- The store once a record that is held, if one is, has what is due to it, or all of the burst, and nothing more.
unfoldable pub finished : List ℕ → ℕ → List ℕ → List ℕ
finished store n bytes = cond (eqb n 0) store (sets store n (take (due good_front (take n store ++ bytes) - n) bytes))

-- The held record is still held, with all of the burst, or it is past and the burst goes on behind a place.
pub record Finishes (buffer held : List ℕ) (i : Intake) (bytes bufferThen heldThen : List ℕ) (f : Finished) : Type 0 where
  pub place : f.at ≤ length bytes
  pub inside : f.held ≤ length heldThen
  pub size : length heldThen ≡ length held
  pub whole : heldThen ≡ finished held i.held bytes
  pub sound : Sound (taking_of bufferThen f.place)
  pub still : 0 < f.held → fed reader (standing_of buffer held i) bytes ≡ stands_at (taking_of bufferThen f.place) (take f.held heldThen)
  pub past : f.held ≡ 0 → fed reader (standing_of buffer held i) bytes ≡ fed reader (start (taking_of bufferThen f.place)) (drop f.at bytes)

-- The whole records from a place of a burst on.
pub record Passes (buffer : List ℕ) (from : Passed) (bytes bufferThen : List ℕ) (r : Passed) : Type 0 where
  pub place : r.at ≤ length bytes
  pub same : fed reader (start (taking_of buffer from.place)) (drop from.at bytes) ≡ stands_at (taking_of bufferThen r.place) (drop r.at bytes)

-- As a burst, but that the store has what is held now over the finished record.
pub record Settles (buffer store : List ℕ) (i : Intake) (bytes bufferThen storeThen : List ℕ) (r : Intake) : Type 0 where
  pub same : standing_of bufferThen storeThen r ≡ fed reader (standing_of buffer store i) bytes
  pub whole : storeThen ≡ sets (finished store i.held bytes) 0 (fed reader (standing_of buffer store i) bytes).held
  pub size : length storeThen ≡ length store
  pub ready : Ready bufferThen storeThen r

-- ---- one record, or more, from a place on

-- so many bytes are due at a place, and all of them are there
pub record Advanceable (buffer : List ℕ) (from : Passed) (bytes : List ℕ) (n : ℕ) : Type 0 where
  pub sound : Sound (taking_of buffer from.place)
  pub going : is_some from.place.fault ≡ false
  pub is : due good_front (drop from.at bytes) ≡ n
  pub fits : from.at + n ≤ length bytes

pub record Advances (buffer : List ℕ) (from : Passed) (bytes bufferThen : List ℕ) (r : Passed) : Type 0 where
  pub place : r.at ≤ length bytes
  pub onward : from.at < r.at
  pub sound : Sound (taking_of bufferThen r.place)
  pub same : fed reader (start (taking_of buffer from.place)) (drop from.at bytes)
      ≡ fed reader (start (taking_of bufferThen r.place)) (drop r.at bytes)

-- ---- all whole good records at once

-- bytes at the front of a store that make no record yet
pub record Holds (store : List ℕ) (held : ℕ) : Type 0 where
  pub room : 32_808 ≤ length store
  pub inside : held ≤ length store
  pub raw : ripe good_front (take held store) ≡ false

-- A stretch covers held bytes and those of a burst up to its end: whole good records alone, so many, which count so much.
pub record Covers (held bytes : List ℕ) (s : Stretch) : Type 0 where
  pub inside : s.end ≤ length bytes
  pub good : all_good good_record (records (held ++ take s.end bytes)) ≡ true
  pub number : s.records ≡ length (records (held ++ take s.end bytes))
  pub counts : s.counts ≡ packed_of (held ++ take s.end bytes)

-- it can be gone on with
pub record Onward (s : Stretch) : Type 0 where
  pub number : s.records ≤ s.end
  pub few : Few s.records s.counts

-- The held record is the first of a stretch, or there is none. The held bytes stay. If a stretch begins, all that a burst puts after them is there;
-- else it is once the
-- record is finished.
pub record Begins (store : List ℕ) (held : ℕ) (bytes storeThen : List ℕ) (s : Stretch) : Type 0 where
  pub size : length storeThen ≡ length store
  pub front : take held storeThen ≡ take held store
  pub whole : finished storeThen held bytes ≡ completed store held bytes
  pub ended : 0 < s.end → storeThen ≡ completed store held bytes
  pub none : s.end ≡ 0 → s ≡ nothing
  pub empty : held ≡ 0 → s.end ≡ 0
  pub onward : Onward s
  pub covers : 0 < s.end → Covers (take held store) bytes s

-- a stretch that finds room behind the bytes in use
pub record Takeable (buffer held : List ℕ) (from : Place) (bytes : List ℕ) (s : Stretch) : Type 0 where
  pub going : is_some from.fault ≡ false
  pub fit : fits (length buffer) from.journal ≡ true
  pub covers : Covers held bytes s
  pub onward : Onward s
  pub room : length held + s.end ≤ min (length buffer) size_limit - from.journal.used

-- the same as record by record
pub record TakesStretch (buffer held : List ℕ) (from : Place) (bytes bufferThen : List ℕ) (r : Passed) : Type 0 where
  pub place : r.at ≤ length bytes
  pub good : all_good good_record (records (held ++ take r.at bytes)) ≡ true
  pub same : taking_of bufferThen r.place ≡ run step (taking_of buffer from) (records (held ++ take r.at bytes))

-- A sweep leaves an intake and a store from which the rest of the burst gives what the whole gives.
pub record Sweeps (buffer store : List ℕ) (i : Intake) (bytes bufferThen storeThen : List ℕ) (r : Swept) : Type 0 where
  pub place : r.at ≤ length bytes
  pub size : length storeThen ≡ length store
  pub whole : finished storeThen r.intake.held (drop r.at bytes) ≡ completed store i.held bytes
  pub ready : Ready bufferThen storeThen r.intake
  pub same : fed reader (standing_of bufferThen storeThen r.intake) (drop r.at bytes) ≡ fed reader (standing_of buffer store i) bytes

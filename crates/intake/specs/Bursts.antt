-- Where the code of an intake stands between bursts (document 02, M-109): its struct by value, the journal's buffer, and a lent buffer, the store,
-- with the bytes of an
-- unfinished record at its front.
use Rattle.std.specs.Prelude.{ℕ, ◌-◌, ◌≤◌, ◌≡◌, true, false, cond, ◌&&◌, List, ◌++◌, leb, ltb, eqb, length, take, Option, Some, None, is_some}
use Rattle.std.proofs.lemmas.List.Edits.{sets}
use Rattle.records.specs.Cutting.{due, ripe, Standing, fed}
use Rattle.tallies.specs.declared.keeping.Tallied.{Tallied}
use Rattle.tallies.specs.declared.keeping.Refusal.{Refusal}
use Rattle.tallies.specs.declared.keeping.Refusal.TheVariants as refusal
use Rattle.tallies.specs.Keeping.{fits}
use Rattle.tallies.specs.Sessions as sessions
use Rattle.intake.specs.declared.bursts.Intake.{Intake}
use Rattle.intake.specs.declared.bursts.Ending.{Ending}
use Rattle.intake.specs.declared.bursts.Ending.TheVariants as ending
use Rattle.intake.specs.Taking.{good_front, Taking, taking_of, reader}

abbrev pub stands_at : Taking → List ℕ → Standing Taking
stands_at s held = record { state = s; held = held }

abbrev pub standing_of : List ℕ → List ℕ → Intake → Standing Taking
standing_of buffer store i = stands_at (taking_of buffer i.place) (take i.held store)

-- "Keep at most one unfinished record": the journal's use and tallies fit its buffer, and the store has room for any record and holds bytes that make
-- none yet; once a fault
-- was met, it holds no byte. What a start has, and every burst leaves.
pub record Ready (buffer store : List ℕ) (i : Intake) : Type 0 where
  pub room : 32_808 ≤ length store
  pub inside : i.held ≤ length store
  pub raw : ripe good_front (take i.held store) ≡ false
  pub quiet : is_some i.place.fault ≡ true → i.held ≡ 0
  pub numbered : 1 ≤ i.place.number
  pub fit : fits (length buffer) i.place.journal ≡ true
  pub real : i.place.fault ≡ Some refusal.Unfit → ⊥

-- a burst as an operation on the journal: held bytes, number and fault are the intake's
abbrev pub bursting : List ℕ → ℕ → Option Refusal → List ℕ → sessions.Standing → sessions.Standing
bursting held number fault bytes s =
    let x = (fed reader (stands_at (record { buffer = s.buffer; journal = s.journal; number = number; fault = fault }) held) bytes).state in
    sessions.standing_as x.buffer x.journal

-- The store once a record that is held, if one is, has what is due to it, or all of the burst. Of a burst of 18 bytes or more at least 18 are put
-- after fewer than 18
-- held ones: no record of a node is longer, so it can be judged there.
unfoldable pub completed : List ℕ → ℕ → List ℕ → List ℕ
completed store n bytes =
    let missing = due good_front (take n store ++ bytes) - n in
    let put = cond (ltb n 18 && (leb 18 (length bytes) && leb missing 18)) 18 missing in
    cond (eqb n 0) store (sets store n (take put bytes))

-- A burst leaves what the reader of records says, every byte of the journal's buffer with it, and is ready for the next. The store has what is held
-- now over the
-- completed record; after a fault it is not touched.
pub record Bursts (buffer store : List ℕ) (i : Intake) (bytes bufferThen storeThen : List ℕ) (r : Intake) : Type 0 where
  pub same : standing_of bufferThen storeThen r ≡ fed reader (standing_of buffer store i) bytes
  pub journal : sessions.standing_as bufferThen r.place.journal
      ≡ bursting (take i.held store) i.place.number i.place.fault bytes (sessions.standing_as buffer i.place.journal)
  pub whole : storeThen ≡ sets (completed store i.held bytes) 0 (fed reader (standing_of buffer store i) bytes).held
  pub kept : is_some i.place.fault ≡ true → storeThen ≡ store
  pub size : length storeThen ≡ length store
  pub ready : Ready bufferThen storeThen r

-- over a tallied journal as it is: nothing held, number 1, no fault
abbrev pub start_of : Tallied → Intake
start_of t = record { place = record { journal = t; number = 1; fault = None }; held = 0 }

-- "unfinished, when the end is announced inside a record"; after a fault "the same refusal"
abbrev pub end_for : Option Refusal → ℕ → ℕ → Ending
end_for None number held = cond (eqb held 0) ending.Nothing (ending.Unfinished number)
end_for (Some refusal.Malformed) number held = ending.Malformed number
end_for (Some refusal.NoRoom) number held = ending.NoRoom number
end_for (Some refusal.Unfit) number held = ending.Unfit number

abbrev pub end_of : Intake → Ending
end_of i = end_for i.place.fault i.place.number i.held

-- of a standing between bursts
abbrev pub end_at : Standing Taking → Ending
end_at w = end_for w.state.fault w.state.number (length w.held)

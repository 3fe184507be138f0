-- One record after the other, in numerals: how a buffer is cut, what is judged of it by a rule for a good record, and what a burst does from any state.
use Rattle.std.specs.Prelude.{ℕ, ◌+◌, ◌-◌, ◌≤◌, ◌<◌, ◌≡◌, Bool, true, false, cond, ◌&&◌, List, [], ◌∷◌, ◌++◌, ◌⊎◌, length, take, drop}
use Rattle.words.specs.Numbers.{le}
use Rattle.words.specs.Claims.Exactly.{Exactly}
use Rattle.records.specs.Records.{length_of, kind_of, first_record, records, whole, all_good, well_formed_by}
use Rattle.records.specs.Cutting.{due, ripe, Reader, Standing, start, fed}

-- A buffer that is not empty, by the length that its first two bytes give. 01: "the length counts kind and body"
pub record FirstExactly (good : List ℕ → Bool) (b : List ℕ) (len : ℕ) : Type 0 where
  pub cut : 2 ≤ len → len + 2 ≤ length b → records b ≡ take (len + 2) b ∷ records (drop (len + 2) b)
  -- the first record, which the buffer's end may cut off, and those after it
  pub cut_anywhere : records b ≡ take (len + 2) b ∷ records (drop (len + 2) b)
  pub first : 2 ≤ len → len + 2 ≤ length b → all_good good (records b) ≡ (good (take (len + 2) b) && all_good good (records (drop (len + 2) b)))
  -- 01: "Records fill the buffer exactly."
  pub no_record : (len < 2) ⊎ (length b < len + 2) → all_good good (records b) ≡ false

pub record RecordsInTurn : Type 0 where
  -- 01: "A record is a two-byte length, a two-byte kind and a body"
  pub frame : (b : List ℕ) → (length_of b ≡ le 2 b 0) × ((kind_of b ≡ le 2 b 2) × (first_record b ≡ take (le 2 b 0 + 2) b))
  pub none : (good : List ℕ → Bool) → all_good good (records []) ≡ true
  pub nothing : records [] ≡ []
  pub each : (good : List ℕ → Bool) (b : List ℕ) → 1 ≤ length b → FirstExactly good b (le 2 b 0)
  pub alone : (r : List ℕ) → Exactly (whole r ≡ true) ((2 ≤ le 2 r 0) × (length r ≡ le 2 r 0 + 2))
  -- ".. or an oversized buffer is malformed.", "An empty buffer is well formed."
  pub limited : (good : List ℕ → Bool) (limit : ℕ) (b : List ℕ)
      → Exactly (well_formed_by limit good b ≡ true) ((length b ≤ limit) × (all_good good (records b) ≡ true))

-- A burst from any state of a reader. Held bytes stand before those of the burst. A record is taken once all that is due of it is in, and the bytes
-- after it go on; until then they are held. Nothing changes once the reader has stopped.
pub record FedExactly {S : Type 0} (R : Reader S) : Type 0 where
  pub held_first : (s : S) (held b : List ℕ) → R.stopped s ≡ false → ripe R.good held ≡ false
      → fed R (record { state = s; held = held }) b ≡ fed R (start s) (held ++ b)
  pub unfinished : (s : S) (b : List ℕ) → R.stopped s ≡ false → ripe R.good b ≡ false → fed R (start s) b ≡ record { state = s; held = b }
  pub complete : (s : S) (b : List ℕ) → ripe R.good b ≡ true
      → fed R (start s) b ≡ fed R (start (R.step s (take (due R.good b) b))) (drop (due R.good b) b)
  pub over : (w : Standing S) (b : List ℕ) → R.stopped w.state ≡ true → fed R w b ≡ start w.state
  -- the whole record after a length and a kind that can be good, else the four bytes that say so
  pub due_is : (b : List ℕ) → due R.good b ≡ 4 + cond (R.good (le 2 b 0) (le 2 b 2)) (le 2 b 0 - 2) 0
  pub ripe_is : (b : List ℕ) → Exactly (ripe R.good b ≡ true) (due R.good b ≤ length b)

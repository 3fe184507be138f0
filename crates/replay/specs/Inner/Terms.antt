-- Terms of contracts inside the crate.
-- Terms of the contracts of private functions; no public promise cites them.
use Rattle.std.specs.Prelude.{ℕ, ◌≤◌, ◌<◌, ◌≡◌, true, Bool, ◌&&◌, cond, List, length, take, drop, Option, is_some, unwrap_or}
use Rattle.std.proofs.lemmas.List.Edits.{sets}
use Rattle.records.specs.Cutting.{Standing, fed, Reader, start}
use Rattle.replay.specs.declared.feeding.Replay.{Replay}
use Rattle.trace.specs.Trace.{good_frame}
use Rattle.trace.specs.Playing.{Platform, is_over, reader, stopped}
use Rattle.playing.specs.Lent.{Lent, lender, lent_step}
use Rattle.playing.specs.Played.{lent_of}
use Rattle.playing.specs.Claims.Played.{Steady}
use Rattle.counting.specs.OfTrace.{counter, made, counted_all}
use Rattle.counting.specs.Claims.Terms.{Within}
use Rattle.replay.specs.Feeding.{at, standing_of, lent_standing_of, counting_of, completed}
use Rattle.replay.specs.Claims.Feeding.{Ready}
use Rattle.playing.specs.declared.playing.Playing.{Playing}
use Rattle.replay.specs.declared.feeding.Finished.{Finished}
use Rattle.replay.specs.declared.feeding.Passed.{Passed}
use Rattle.counting.specs.declared.counts.Counts.{Counts}
use Rattle.counting.specs.Counts.{counted}
use Rattle.calls.specs.Buffer.{number_for}

-- A burst is fed: the replay stands as the reader of bursts says, with every byte of the two lent buffers and with its calls counted, and ready for
-- the next. The buffer of held
-- bytes has what is held now over the completed record; its bytes past 4,104 are never touched, and after a stop nothing is.
pub record Feeds (p : Platform) (held args memory : List ℕ) (w : Replay) (bytes heldThen argsThen memoryThen : List ℕ) (r : Replay) : Type 0 where
  pub same : standing_of heldThen argsThen memoryThen r ≡ fed (reader p) (standing_of held args memory w) bytes
  pub lent : argsThen ≡ (fed (lender p) (lent_standing_of held args memory w) bytes).state.args
  pub counts : r.counts ≡ (fed (counter p) (counting_of held args memory w) bytes).state.counts
  pub whole : heldThen ≡ sets (completed held w.held bytes) 0 (fed (reader p) (standing_of held args memory w) bytes).held
  pub behind : drop 4104 heldThen ≡ drop 4104 held
  pub kept : is_over w.playing.report ≡ true → (heldThen ≡ held) × (argsThen ≡ args)
  pub ready : Ready heldThen argsThen r
  pub edition : r.playing.edition ≡ w.playing.edition

-- all that the code carries from record to record: the replay with its lent buffer, and the counts
pub record Carried : Type 0 where
  pub lent : Lent
  pub counts : Counts

unfoldable pub carried_step : Platform → Carried → List ℕ → Carried
carried_step p x r = record { lent = lent_step p x.lent r; counts = counted_all x.counts (made p x.lent.state r) }

abbrev pub carrier : Platform → Reader Carried
carrier p = record { good = good_frame; step = carried_step p; stopped = λ (x : Carried). stopped x.lent.state }

abbrev pub carried_of : List ℕ → List ℕ → Playing → Counts → Carried
carried_of args memory t counts = record { lent = lent_of args memory t; counts = counts }

abbrev pub carried_standing_of : List ℕ → List ℕ → List ℕ → Replay → Standing Carried
carried_standing_of held args memory w = at (carried_of args memory w.playing w.counts) (take w.held held)

-- one call more, by the argument buffer and memory that it left
abbrev pub counted_front : Counts → List ℕ → List ℕ → Counts
counted_front c args memory = counted c (number_for args) args memory

-- and of a record where a 32 waited, if it was taken
abbrev pub counted_by : Counts → Option ℕ → Bool → List ℕ → List ℕ → Counts
counted_by c waiting taken args memory = cond (is_some waiting && taken) (counted_front c (take (unwrap_or waiting 0) args) memory) c

-- The held record is still held, with all of the burst, or it is past and the burst goes on behind a place.
pub record Finishes (p : Platform) (held args memory : List ℕ) (w : Replay) (bytes heldThen argsThen memoryThen : List ℕ) (f : Finished) : Type 0 where
  pub place : f.at ≤ length bytes
  pub inside : f.held ≤ length heldThen
  pub whole : heldThen ≡ completed held w.held bytes
  pub steady : Steady argsThen f.playing
  pub counted : Within f.playing.records f.counts
  pub edition : f.playing.edition ≡ w.playing.edition
  pub still : 0 < f.held → fed (carrier p) (carried_standing_of held args memory w) bytes
      ≡ at (carried_of argsThen memoryThen f.playing f.counts) (take f.held heldThen)
  pub past : f.held ≡ 0 → fed (carrier p) (carried_standing_of held args memory w) bytes
      ≡ fed (carrier p) (start (carried_of argsThen memoryThen f.playing f.counts)) (drop f.at bytes)

-- a place of a burst that a steady replay goes on from
pub record Passable (args : List ℕ) (from : Passed) (bytes : List ℕ) : Type 0 where
  pub place : from.at ≤ length bytes
  pub steady : Steady args from.playing
  pub counted : Within from.playing.records from.counts

-- The whole records from a place of a burst on.
pub record Passes (p : Platform) (args memory bytes : List ℕ) (from : Passed) (argsThen memoryThen : List ℕ) (r : Passed) : Type 0 where
  pub place : r.at ≤ length bytes
  pub steady : Steady argsThen r.playing
  pub counted : Within r.playing.records r.counts
  pub edition : r.playing.edition ≡ from.playing.edition
  pub same : fed (carrier p) (start (carried_of args memory from.playing from.counts)) (drop from.at bytes)
      ≡ at (carried_of argsThen memoryThen r.playing r.counts) (drop r.at bytes)

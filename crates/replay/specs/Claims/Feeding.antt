-- What is claimed of the definitions of `Feeding`.
use Rattle.std.specs.Prelude.{ℕ, ◌≤◌, ◌≡◌, true, false, List, length, take}
use Rattle.records.specs.Cutting.{ripe}
use Rattle.replay.specs.declared.feeding.Replay.{Replay}
use Rattle.trace.specs.Trace.{good_frame}
use Rattle.trace.specs.Playing.{is_over}
use Rattle.playing.specs.Claims.Played.{Steady}
use Rattle.counting.specs.Claims.Terms.{Within}

-- What a start has and every burst leaves: a steady replay, no more calls counted than records taken, and held bytes with room for any record, that make none
-- yet and are none once it has stopped.
pub record Ready (held args : List ℕ) (w : Replay) : Type 0 where
  pub steady : Steady args w.playing
  pub counted : Within w.playing.records w.counts
  pub room : 4104 ≤ length held
  pub inside : w.held ≤ length held
  pub raw : ripe good_frame (take w.held held) ≡ false
  pub quiet : is_over w.playing.report ≡ true → w.held ≡ 0

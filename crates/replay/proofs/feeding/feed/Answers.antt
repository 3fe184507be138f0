-- `feeding::feed` meets its contract.
use native.Mathlib.Omega.{arith}
use Rattle.replay.proofs.Standings.{feed_still, feed_past}
use Rattle.replay.proofs.Ending.{replay_claims}
use Rattle.replay.proofs.feeding.feed.Goals as goal

pub returns-then-still-gt0 : goal.returns-then-still-gt0
returns-then-still-gt0 c =
    record { feeds = feed_still c.requires _ _ _ _ _ _ c.finish-finished.result c.finish-finished.auto.held c.finish-finished.ensures c.if-still-gt0.true; claims = replay_claims }

pub pass-passed-requires : goal.pass-passed-requires
pass-passed-requires c =
    record { place = c.finish-finished.ensures.place; steady = c.finish-finished.ensures.steady; counted = c.finish-finished.ensures.counted }

pub returns : goal.returns
returns c =
    record { feeds = feed_past c.requires _ _ _ _ c.finish-finished.auto.held c.finish-finished.ensures (omega arith) c.pass-passed.ensures _ _ c.fill-left.auto.buffer c.fill-left.ensures; claims = replay_claims }

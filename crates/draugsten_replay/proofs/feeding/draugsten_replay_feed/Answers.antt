-- `feeding::draugsten_replay_feed` meets its contract.
use mathlib.Core.Path.{◌≡◌, sym, ◌∙◌}
use Rattle.counting.specs.Counts.{no_counts}
use Rattle.replay_states.specs.States.{judged}
use Rattle.replay_states.proofs.States.{taken, narrow, ready}
use Rattle.draugsten_replay.proofs.Bursts.{feeds_refused, feeds_given}
use Rattle.draugsten_replay.proofs.Promises.{replay_promise}
use Rattle.draugsten_replay.proofs.feeding.draugsten_replay_feed.Goals as goal

pub returns-then-number-ne0 : goal.returns-then-number-ne0
returns-then-number-ne0 c =
    record { flat_feeds = feeds_refused _ _ _ _ _ _ _ _ c.judge-number.ensures.value c.if-number-ne0.true; promise = replay_promise }

pub replay_alone-requires : goal.replay_alone-requires
replay_alone-requires c =
    let zero_is : judged c.args.held.now c.args.args.now c.args.from ≡ 0 =
    sym c.judge-number.ensures.value ∙ c.if-number-ne0.false in
    narrow c.args.from (taken c.args.held.now c.args.args.now c.args.from (zero_is))

pub feed-next-requires : goal.feed-next-requires
feed-next-requires c =
    let zero_is : judged c.args.held.now c.args.args.now c.args.from ≡ 0 =
    sym c.judge-number.ensures.value ∙ c.if-number-ne0.false in
    rw c.replay_alone.ensures (ready _ _ _ (zero_is))

pub returns : goal.returns
returns c =
    let zero_is : judged c.args.held.now c.args.args.now c.args.from ≡ 0 =
    sym c.judge-number.ensures.value ∙ c.if-number-ne0.false in
    rw c.flat_replay_of.ensures (record {
      flat_feeds = feeds_given _ _ _ _ _ _ _ no_counts _ _ _ _ (zero_is)
          (rw c.replay_alone.ensures at c.feed-next.ensures.feeds);
      promise = replay_promise;
    })

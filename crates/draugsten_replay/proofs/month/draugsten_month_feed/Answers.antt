-- `month::draugsten_month_feed` meets its contract.
use mathlib.Core.Path.{◌≡◌, sym, ◌∙◌}
use borrow.Author.Rules.{rules}
use Rattle.counting.specs.Claims.Terms.{Within}
use Rattle.replay_states.proofs.States.{taken, narrow, ready_with}
use Rattle.replay_states.proofs.Counted.{counts_within_lem}
use Rattle.draugsten_replay.specs.Month.{judged_counting}
use Rattle.draugsten_replay.proofs.Sessions.{alone, counts_in}
use Rattle.draugsten_replay.proofs.Countings.{counting_refused, counting_given}
use Rattle.draugsten_replay.proofs.Promises.{month_promise}
use Rattle.draugsten_replay.proofs.month.draugsten_month_feed.Goals as goal

pub returns-then-number-ne0 : goal.returns-then-number-ne0
returns-then-number-ne0 c =
    record { counting_feeds = counting_refused _ _ _ _ _ _ _ _ c.judge_counting-number.ensures c.if-number-ne0.true; promise = month_promise }

pub replay_of-requires : goal.replay_of-requires
replay_of-requires c =
    let zero_is : judged_counting c.args.held.now c.args.args.now c.args.from ≡ 0 =
    sym c.judge_counting-number.ensures ∙ c.if-number-ne0.false in
    let a = c.args in
    narrow a.from.replay (taken a.held.now a.args.now a.from.replay (alone a.held.now a.args.now a.from (zero_is)))

pub feed-next-requires : goal.feed-next-requires
feed-next-requires c =
    let zero_is : judged_counting c.args.held.now c.args.args.now c.args.from ≡ 0 =
    sym c.judge_counting-number.ensures ∙ c.if-number-ne0.false in
    let within : Within c.args.from.replay.records c.args.from.counts =
    let a = c.args in
    let z = zero_is in
    counts_within_lem a.from.replay a.from.counts (taken a.held.now a.args.now a.from.replay (alone a.held.now a.args.now a.from z)) (search rules) (counts_in a.held.now a.args.now a.from z) in
    let a = c.args in
    rw c.replay_of.ensures (ready_with a.held.now a.args.now a.from.replay (alone a.held.now a.args.now a.from (zero_is)) a.from.counts (within))

pub returns : goal.returns
returns c =
    let zero_is : judged_counting c.args.held.now c.args.args.now c.args.from ≡ 0 =
    sym c.judge_counting-number.ensures ∙ c.if-number-ne0.false in
    rw c.flat_counting_of.ensures (record { counting_feeds = counting_given _ _ _ _ _ c.args.from _ _ _ _ _ (search rules) (zero_is) (rw c.replay_of.ensures at c.feed-next.ensures.feeds); promise = month_promise })

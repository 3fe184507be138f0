-- A month by its sessions.
use mathlib.Core.Path.{refl}
use borrow.Author.Tests.{ne_eqb}
use Rattle.calls.specs.Buffer.{asks}
use Rattle.replay_states.specs.States.{are_counts, judged}
use Rattle.draugsten_replay.specs.Month.{is_counting_by, judged_counting_by, counts_added, month_added}
use Rattle.draugsten_replay.specs.Claims.Sessions.{month_of}
use Rattle.draugsten_replay.specs.Claims.Month.{SessionsExactly}

pub sessions_exactly : SessionsExactly
unfolding counts_added month_added month_of judged_counting_by is_counting_by are_counts asks
sessions_exactly =
    record {
      report = λ s. refl;
      figures = λ s. refl;
      added = λ t s calls e. rw e;
      not_taken = λ t f e. rw e;
      taken = λ t f e. rw e;
      adds = λ t figures n k. (refl, refl, refl);
      counted_from = λ held args memory f. refl;
      none = λ t. refl;
      next = λ t s ss. refl;
      feeds = λ journal inventory held args memory bytes heldThen argsThen memoryThen f r feeds. (feeds.number, feeds.refused, feeds.replays, feeds.counts, feeds.again);
      judged_first = λ held args f n. rw (ne_eqb (judged held args f.replay) 0 n);
      judged_then = λ held args f e. rw e;
      both = λ f. refl;
      counts_taken = λ f c. refl;
      begins = λ edition. refl;
      figured = λ c. refl;
      nodes = λ b. refl;
      at = λ b n. (refl, refl);
      share = λ t. refl;
    }

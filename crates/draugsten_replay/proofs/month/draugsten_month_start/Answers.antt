-- `month::draugsten_month_start` meets its contract.
use Rattle.draugsten_replay.proofs.Promises.{month_promise}
use Rattle.draugsten_replay.proofs.month.draugsten_month_start.Goals as goal

pub flat_replay_of-requires : goal.flat_replay_of-requires
flat_replay_of-requires c =
    rw c.start.ensures.value tt

pub returns : goal.returns
returns c =
    record { value = rw (c.no_counts.ensures, c.flat_replay_of.ensures, c.start.ensures.value); promise = month_promise }

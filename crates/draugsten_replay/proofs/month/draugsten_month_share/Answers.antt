-- `month::draugsten_month_share` meets its contract.
use Rattle.draugsten_replay.proofs.Promises.{month_promise}
use Rattle.draugsten_replay.proofs.month.draugsten_month_share.Goals as goal

pub returns : goal.returns
returns c =
    record { value = c.share_of.ensures.value; promise = month_promise }

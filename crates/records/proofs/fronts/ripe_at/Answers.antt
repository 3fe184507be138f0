-- `fronts::ripe_at` meets its contract.
use Rattle.records.proofs.Behind.{none_short, none_less, some_all}
use Rattle.records.proofs.fronts.ripe_at.Goals as goal

pub returns-then-bytes-at-lt4 : goal.returns-then-bytes-at-lt4
returns-then-bytes-at-lt4 g c =
    none_short g.R.Front.good c.args.bytes.now c.args.at c.if-bytes-at-lt4.true

pub returns-then-bytes-at : goal.returns-then-bytes-at
returns-then-bytes-at g c =
    none_less g.R.Front.good c.args.bytes.now c.args.at _ c.due_at-n.ensures c.if-bytes-at.true

pub returns : goal.returns
returns g c =
    some_all g.R.Front.good c.args.bytes.now c.args.at _ c.due_at-n.ensures c.if-bytes-at.false

-- `walk::walk_over` meets its contract.
use Rattle.properties.proofs.Going.{walked_whole, walked_hit, walked_miss}
use Rattle.properties.proofs.walk.walk_over.Goals as goal

pub returns-then-whole-walk : goal.returns-then-whole-walk
returns-then-whole-walk c =
    walked_whole _ _ _ c.if-whole-walk.true

pub returns-then-gone : goal.returns-then-gone
returns-then-gone c =
    walked_hit _ _ _ _ _ c.go_over-gone.ensures c.if-gone.true

pub returns-else-gone : goal.returns-else-gone
returns-else-gone c =
    walked_miss _ _ _ _ _ c.go_over-gone.ensures c.if-gone.false

-- `walk::go_over` meets its contract.
use Rattle.properties.proofs.Going.{over_part, over_hit, over_miss}
use Rattle.properties.proofs.walk.go_over.Goals as goal

pub returns-then-e-room : goal.returns-then-e-room
returns-then-e-room c =
    over_part _ _ _ _ _ _ _ _ c.if-e-room.true c.go_through.ensures

pub returns-then-e-state : goal.returns-then-e-state
returns-then-e-state c =
    over_hit _ _ _ _ _ _ _ _ c.if-e-room.false c.requires.2 c.go_through-gone.ensures c.if-e-state.true

pub returns : goal.returns
returns c =
    over_miss _ _ _ _ _ _ _ _ c.if-e-room.false c.requires.2 c.go_through-gone.ensures c.if-e-state.false

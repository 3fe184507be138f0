use native.Mathlib.Omega.{arith}
use Rattle.moving.proofs.Pieces.{front_start, front_next, front_end}
use Rattle.moving.proofs.moving.move_forward.Goals as goal

pub loop-done-init : goal.loop-done-init
loop-done-init c =
    front_start _ _ _ _

pub move_piece-requires : goal.move_piece-requires
move_piece-requires c =
    let t = c.loop-done.invariant in
    let n = c.min-n.ensures in
    ((omega (arith, t.within, t.long, n), omega (arith, t.within, t.long, n)), omega (arith, n))

pub loop-done-preserved : goal.loop-done-preserved
loop-done-preserved c =
    let n = c.min-n.ensures in
    front_next _ _ _ _ _ _ c.loop-done.invariant (omega arith) (omega arith) _ _ (omega (arith, n)) c.move_piece.ensures

pub shape_of-bytes : goal.shape_of-bytes
shape_of-bytes c =
    c.loop-done.invariant.long

pub returns : goal.returns
returns c =
    front_end _ _ _ _ _ _ c.loop-done.invariant (omega arith)

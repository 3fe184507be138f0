use native.Mathlib.Omega.{arith}
use Rattle.moving.proofs.Pieces.{back_start, back_next, back_end}
use Rattle.moving.proofs.moving.move_backward.Goals as goal

pub loop-left-init : goal.loop-left-init
loop-left-init c =
    back_start _ _ _ _

pub move_piece-requires : goal.move_piece-requires
move_piece-requires c =
    let t = c.loop-left.invariant in
    let n = c.min-n.ensures in
    ((omega (arith, t.within, t.long, n), omega (arith, t.within, t.long, n)), omega (arith, n))

pub loop-left-preserved : goal.loop-left-preserved
loop-left-preserved c =
    let n = c.min-n in
    back_next _ _ _ _ _ _ c.loop-left.invariant (omega arith) (omega arith) n.result _ _ (omega (arith, n.ensures)) c.move_piece.ensures

pub shape_of-bytes : goal.shape_of-bytes
shape_of-bytes c =
    c.loop-left.invariant.long

pub returns : goal.returns
returns c =
    back_end _ _ _ _ _ _ c.loop-left.invariant (omega arith)

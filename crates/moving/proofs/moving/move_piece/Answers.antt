-- `moving::move_piece` meets its contract.
use native.Mathlib.Omega.{arith}
use Rattle.words.proofs.Ranges.{range_from}
use Rattle.moving.proofs.Pieces.{piece_moved}
use Rattle.moving.proofs.moving.move_piece.Goals as goal

pub returns : goal.returns
returns c =
    let a = c.args in
    piece_moved _ a.bytes.now _ _ a.to a.from a.size (rw (range_from _ _ _) at c.store.ensures) c.store-2.ensures (omega arith) (omega arith)

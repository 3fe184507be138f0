-- `main` meets its contract.
use mathlib.Core.Path.{sym}
use Prim.Native.Nat.{ℕ, ◌≤◌}
use lib.ListN.{length, replicate, length-replicate}
use lib.Seq.{length-take-le}
use Rattle.print_nodes.proofs.Sizes.{text_room}
use Rattle.print_nodes.proofs.main.Goals as goal

-- the text is inside its buffer
pub slice_bounds-out-end : goal.slice_bounds-out-end
slice_bounds-out-end c =
    text_room _ _ (replicate 32_768 0) _ _ (length-replicate {A = ℕ} 32_768 0) c.print_area-count.ensures.value c.print_area-count.ensures.out_after

pub slice_bounds-write_text-end-2 : goal.slice_bounds-write_text-end-2
slice_bounds-write_text-end-2 c =
    let room : c.print_area-count.result ≤ length c.print_area-count.new.out =
    text_room _ _ (replicate 32_768 0) _ _ (length-replicate {A = ℕ} 32_768 0) c.print_area-count.ensures.value c.print_area-count.ensures.out_after in
    sym (length-take-le _ _ room)

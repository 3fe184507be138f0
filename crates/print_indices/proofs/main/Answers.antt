-- `main` meets its contract.
use mathlib.Core.Path.{sym}
use Prim.Native.Nat.{◌≤◌}
use lib.ListN.{length}
use lib.Seq.{length-take-le}
use Rattle.print_indices.proofs.Sizes.{printed_room}
use Rattle.print_indices.proofs.main.Goals as goal

-- the text is inside its buffer
pub slice_bounds-out-end : goal.slice_bounds-out-end
slice_bounds-out-end c =
    printed_room _ _ _ _ (sym c.text_buffer-out.ensures) c.print_area-count.ensures.value c.print_area-count.ensures.out_after

pub slice_bounds-write_text-end-2 : goal.slice_bounds-write_text-end-2
slice_bounds-write_text-end-2 c =
    let room : c.print_area-count.result ≤ length c.print_area-count.new.out =
    printed_room _ _ _ _ (sym c.text_buffer-out.ensures) c.print_area-count.ensures.value c.print_area-count.ensures.out_after in
    sym (length-take-le _ _ room)

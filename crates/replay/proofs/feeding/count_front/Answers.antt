-- `feeding::count_front` meets its contract.
use mathlib.Core.Path.{sym}
use lib.Seq.{length-take-le}
use Rattle.replay.proofs.feeding.count_front.Goals as goal

pub slice_bounds-number_for-end : goal.slice_bounds-number_for-end
slice_bounds-number_for-end c =
    sym (length-take-le _ _ c.requires.1)

pub slice_bounds-count_call-end : goal.slice_bounds-count_call-end
slice_bounds-count_call-end c =
    sym (length-take-le _ _ c.requires.1)

pub count_call-requires : goal.count_call-requires
count_call-requires c =
    (c.requires.0, c.number_for-number.ensures)

pub returns : goal.returns
returns c =
    rw (← c.number_for-number.ensures) c.count_call.ensures.value

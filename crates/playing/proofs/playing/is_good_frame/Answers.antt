-- `playing::is_good_frame` meets its contract.
use Rattle.playing.proofs.Leaves.{frame_low, frame_high, frame_kind_low, frame_kind}
use Rattle.playing.proofs.playing.is_good_frame.Goals as goal

pub returns-then-length-lt2 : goal.returns-then-length-lt2
returns-then-length-lt2 c =
    frame_low _ _ c.if-length-lt2.true

pub returns-then-length-gt4102 : goal.returns-then-length-gt4102
returns-then-length-gt4102 c =
    frame_high _ _ c.if-length-gt4102.true

pub returns-then-kind-ge32 : goal.returns-then-kind-ge32
returns-then-kind-ge32 c =
    frame_kind _ _ c.if-length-lt2.false c.if-length-gt4102.false c.if-kind-ge32.true

pub returns-else-kind-ge32 : goal.returns-else-kind-ge32
returns-else-kind-ge32 c =
    frame_kind_low _ _ c.if-kind-ge32.false

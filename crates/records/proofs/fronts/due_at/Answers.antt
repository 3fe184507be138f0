-- `fronts::due_at` meets its contract.
use mathlib.Core.Path.{sym, ◌∙◌}
use Rattle.records.proofs.Due.{due_framed, due_unframed}
use Rattle.records.proofs.fronts.due_at.Goals as goal

pub returns-then-is_good : goal.returns-then-is_good
returns-then-is_good g c =
    rw c.saturating_sub.ensures (due_framed g.R.Front.good _ _ c.read_frame-frame.ensures (sym c.is_good.ensures ∙ c.if-is_good.true))

pub returns : goal.returns
returns g c =
    due_unframed g.R.Front.good _ _ c.read_frame-frame.ensures (sym c.is_good.ensures ∙ c.if-is_good.false)

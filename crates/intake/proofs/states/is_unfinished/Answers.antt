-- `states::is_unfinished` meets its contract.
use mathlib.Core.Path.{sym, ◌∙◌}
use borrow.Author.Tests.{le-leb, lt-leb}
use lib.Seq.{length-take-le}
use Rattle.records.proofs.Behind.{tells_ripe}
use Rattle.intake.specs.Taking.{good_front}
use Rattle.intake.proofs.Taken.{none_told}
use Rattle.intake.proofs.states.is_unfinished.Goals as goal

pub returns-then-store-held : goal.returns-then-store-held
returns-then-store-held c =
    rw (lt-leb _ _ c.if-store-held.true)

pub slice_bounds-ripe_at-end : goal.slice_bounds-ripe_at-end
slice_bounds-ripe_at-end c =
    sym (length-take-le _ _ c.if-store-held.false)

pub returns : goal.returns
returns c =
    rw (le-leb _ _ c.if-store-held.false) (none_told _ _ (sym (tells_ripe good_front _ _ c.ripe_at.ensures) ∙ c.is_none.ensures))

-- What is known of figures that were taken.
use Rattle.std.specs.Prelude.{IsOk}
use mathlib.Core.Path.{◌≡◌}
use mathlib.Core.Bool.{true, false≢true}
use Rattle.words.proofs.Choice.{decide}
use Rattle.totals.specs.declared.adding.Totals.{Totals}
use Rattle.totals.specs.Adding.{totals_of, all_fit, added_to, totals_after}
use Rattle.totals.proofs.Sums.{both, added, not_added}

-- what was taken fits, and is the sums
pub taken : (t m : Totals) → IsOk (added_to t m) → (all_fit (both t m) ≡ true) × (totals_after t m ≡ totals_of (both t m))
taken t m e =
    decide (all_fit (both t m))
    (λ f. (f, rw (added t m f)))
    (λ f. absurd (false≢true (rw (not_added t m f) at e)))

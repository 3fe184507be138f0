-- A reading whose edition stands: no call gives -4, so that a refused one keeps the record.
use mathlib.Core.Path.{◌≡◌, sym, ap, ◌∙◌}
use mathlib.Core.Bool.{false, true≢false}
use mathlib.Core.Logic.{◌⊎◌, ⊎_elim}
use borrow.Author.Tests.{le-leb}
use Rattle.calls.specs.Status.{is_given}
use Rattle.calls.specs.Buffer.{Found, call_of, answered}
use Rattle.calls.specs.Claims.Terms.{minus, Refused}
use Rattle.calls.specs.Claims.Session.{is_answered, status_then}
use Rattle.calls.specs.Claims.OneEdition.{Gives}
use Rattle.calls.proofs.Heads.{number_is, has_given}
use Rattle.calls.proofs.Confined.{demand1}
use Rattle.calls.proofs.Exact.{demand2}

module _ (c : Found) where
  -- a refused call has no status of 0 or 1
  pub refused_is : is_answered c ≡ false → Refused c.args (call_of c)
  unfolding answered
  refused_is e given low = true≢false (sym (rw (ap is_given (number_is c), has_given c given, le-leb (status_then c) 1 low)) ∙ e)

  -- the record has no other number than 1, or the edition that the call finds
  module _ (stands : (c.reading.number.0 ≡ 1) ⊎ (c.edition.0 ≡ c.reading.edition.0)) where
    pub never_changed : Gives (minus 4) c → ⊥
    never_changed g =
        let told = ((demand2.statuses c g.0).indices g.1).0.changed.0 g.2 in
        told.1.1 (λ n. ⊎_elim (λ e. absurd (n ((told.1.0 n).1.1 ∙ e))) (λ e. e) stands)

    pub refused_keeps : is_answered c ≡ false → (call_of c).reading ≡ c.reading
    refused_keeps e = (demand1 c).refused_reading (refused_is e) never_changed

-- `lookups::check` meets its contract.
use mathlib.Core.Path.{ap, sym, ◌∙◌}
use Rattle.locations.specs.Locations.{answer_of}
use Rattle.locations.proofs.LookupClaims.{location_claims}
use Rattle.locations.proofs.lookups.check.Goals as goal

pub returns-in-Refused : goal.returns-in-Refused
returns-in-Refused c =
    record { value = ap answer_of (sym c.in-Refused.is ∙ c.locate-location.ensures.value); claims = location_claims }

pub returns-in-NotFound : goal.returns-in-NotFound
returns-in-NotFound c =
    record { value = ap answer_of (sym c.in-NotFound.is ∙ c.locate-location.ensures.value); claims = location_claims }

pub returns-in-InArea : goal.returns-in-InArea
returns-in-InArea c =
    record { value = ap answer_of (sym c.in-InArea.is ∙ c.locate-location.ensures.value); claims = location_claims }

pub returns-in-InFixed : goal.returns-in-InFixed
returns-in-InFixed c =
    record { value = ap answer_of (sym c.in-InFixed.is ∙ c.locate-location.ensures.value); claims = location_claims }

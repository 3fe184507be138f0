-- What a view gives is what is claimed of it.
use Rattle.locations.proofs.ViewClaims.{view_claims}
use Rattle.locations.proofs.views.step.Goals as goal

pub returns-clause-claims : goal.returns-clause-claims
returns-clause-claims c = view_claims

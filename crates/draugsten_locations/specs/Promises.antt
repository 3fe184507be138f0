-- What is promised of each function of libdraugsten_locations.a. Each function's contract cites one promise, which the header names; a promise is
-- made of the claims about the function and of what they rest on.
use Rattle.words.specs.Claims.Words.{NumbersExactly, NulExactly, StatedExactly}
use Rattle.indices.specs.Claims.Reader.{IndexReaderExactly}
use Rattle.indices.specs.Claims.Bounds.{EntriesBounded}
use Rattle.locations.specs.Claims.Locations.{LocationClaims, ViewClaims}
use Rattle.draugsten_locations.specs.Claims.Flat.{LookupCrossing, LookupNumbers, ViewCrossing, StepNumbers, RefusalNumbers}

-- draugsten_lookup
pub record LookupPromise : Type 0 where
  pub lookups : LocationClaims
  pub crossing : LookupCrossing
  pub answers : LookupNumbers
  pub refusals : RefusalNumbers
  pub reader : IndexReaderExactly
  pub entries : EntriesBounded
  pub numbers : NumbersExactly
  pub stated : StatedExactly
  pub codes : NulExactly

-- draugsten_view_start and draugsten_view_step
pub record ViewPromise : Type 0 where
  pub views : ViewClaims
  pub crossing : ViewCrossing
  pub steps : StepNumbers
  pub refusals : RefusalNumbers
  pub reader : IndexReaderExactly
  pub entries : EntriesBounded
  pub numbers : NumbersExactly
  pub stated : StatedExactly

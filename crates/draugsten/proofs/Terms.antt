-- What the promises speak with, by the definitions.
use mathlib.Core.Path.{refl}
use Rattle.draugsten.specs.Claims.Terms.{TermsExactly}

pub terms_exactly : TermsExactly
terms_exactly =
    record {
      found-is = λ args memory journal inventory edition registration reading. refl;
      leaves_is = λ number args memory registration reading. refl;
      no_reading_claim = refl;
    }

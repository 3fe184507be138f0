-- Use and tallies cross as they are.
use mathlib.Core.Path.{refl, ap}
use Rattle.draugsten_tallies.specs.Flat.{outcome_number}
use Rattle.draugsten_tallies.specs.Claims.Flat.{Crosses, EachCrosses, EachLeftCrosses, CrossingClaims}

crosses : Crosses
crosses f = refl

pub each_crosses : EachCrosses
each_crosses t = record {
  used = refl;
  negative = record { deletes = refl; updates = refl; additions = refl };
  first = record { deletes = refl; updates = refl; additions = refl };
  second = record { deletes = refl; updates = refl; additions = refl };
  third = record { deletes = refl; updates = refl; additions = refl };
}

each_left_crosses : EachLeftCrosses
each_left_crosses x = record {
  done = λ e. ap outcome_number e;
  malformed = λ e. ap outcome_number e;
  no_room = λ e. ap outcome_number e;
  unfit = λ e. ap outcome_number e;
  buffer = refl;
  journal = each_crosses x.next;
}

pub crossing_claims : CrossingClaims
crossing_claims = record { parts_cross = record { out = λ t. refl; back = λ f. refl; answer = λ n b j. refl }; crosses = crosses; each_crosses = each_crosses; each_left_crosses = each_left_crosses; recount_numbers = (refl, refl) }

-- `lookups::locate` meets its contract.
use mathlib.Core.Path.{ap, sym, ◌∙◌}
use Rattle.locations.specs.declared.listed.Part.{Part}
use Rattle.locations.specs.declared.lookups.Location.TheVariants as location
use Rattle.locations.proofs.Listings.{located_refused, located_reserved, located_fixed, located_area, first_good}
use Rattle.locations.proofs.LookupClaims.{location_claims}
use Rattle.locations.proofs.lookups.locate.Goals as goal

pub returns-then-index-eq-NO_INDEX : goal.returns-then-index-eq-NO_INDEX
returns-then-index-eq-NO_INDEX c =
    let a = c.args in
    record { value = located_reserved a.area.now a.fixed.now a.index _ (sym c.find_listed.ensures ∙ c.in-Ok.is) c.if-index-eq-NO_INDEX.true; claims = location_claims }

pub part_at-requires : goal.part_at-requires
part_at-requires c =
    let a = c.args in
    first_good a.area.now a.fixed.now a.index _ (sym c.find_listed.ensures ∙ c.in-Ok.is) _ c.in-Some.is

pub returns-in-Err : goal.returns-in-Err
returns-in-Err c =
    let a = c.args in
    record { value = located_refused a.area.now a.fixed.now a.index _ (sym c.find_listed.ensures ∙ c.in-Err.is); claims = location_claims }

pub returns-in-None : goal.returns-in-None
returns-in-None c =
    let a = c.args in
    record { value = c.in_fixed.ensures ∙ located_fixed a.area.now a.fixed.now a.index _ (sym c.find_listed.ensures ∙ c.in-Ok.is) c.if-index-eq-NO_INDEX.false c.in-None.is; claims = location_claims }

pub returns-in-Some : goal.returns-in-Some
returns-in-Some c =
    let a = c.args in
    record { value = ap (λ (p : Part). location.InArea p) c.part_at.ensures ∙ located_area a.area.now a.fixed.now a.index _ (sym c.find_listed.ensures ∙ c.in-Ok.is) c.if-index-eq-NO_INDEX.false _ c.in-Some.is; claims = location_claims }

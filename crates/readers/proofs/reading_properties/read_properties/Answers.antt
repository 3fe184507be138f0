-- `reading_properties::read_properties` meets its contract.
use mathlib.Core.Path.{◌≡◌, sym, ◌∙◌}
use native.Mathlib.Omega.{arith}
use Rattle.std.specs.Prelude.{Ok}
use Rattle.property_area.specs.Reading.{reading, check_of}
use Rattle.readers.proofs.PropertyWords.{check_passed, refusal_told, properties_told}
use Rattle.readers.proofs.reading_properties.read_properties.Goals as goal

pub store_properties-requires : goal.store_properties-requires
store_properties-requires c =
    let found : check_of (reading c.args.area.now) ≡ Ok c.in-Ok.entries =
    sym c.check_area.ensures.value ∙ c.in-Ok.is in
    let passed = check_passed _ _ c.min.result (found) (omega arith) in (omega arith, passed.0, passed.1)

pub read_phandle-requires : goal.read_phandle-requires
read_phandle-requires c =
    let found : check_of (reading c.args.area.now) ≡ Ok c.in-Ok.entries =
    sym c.check_area.ensures.value ∙ c.in-Ok.is in
    omega (arith, (check_passed _ _ 0 (found) (omega arith)).0)

pub read_state-requires : goal.read_state-requires
read_state-requires c =
    let found : check_of (reading c.args.area.now) ≡ Ok c.in-Ok.entries =
    sym c.check_area.ensures.value ∙ c.in-Ok.is in
    omega (arith, (check_passed _ _ 0 (found) (omega arith)).0)

pub returns-in-Err : goal.returns-in-Err
returns-in-Err c =
    let both = refusal_told c.args.area.now _ _ _ c.from.ensures (reading _) (sym c.check_area.ensures.value ∙ c.in-Err.is) in
    record { value = both.0; out_after = both.1.0; entries = both.1.1 }

pub returns-in-Ok : goal.returns-in-Ok
returns-in-Ok c =
    let found : check_of (reading c.args.area.now) ≡ Ok c.in-Ok.entries =
    sym c.check_area.ensures.value ∙ c.in-Ok.is in
    let passed = found in
    let both = properties_told _ _ _ _ _ _ _ c.min.ensures c.read_phandle.ensures c.read_state.ensures c.store_properties.ensures (reading _) passed in
    record { value = both.0; out_after = both.1.0; entries = both.1.1 }

-- `reading_indices::read_indices` meets its contract.
use mathlib.Core.Path.{sym, ◌∙◌}
use native.Mathlib.Omega.{arith}
use Rattle.indices.specs.Reading.{reading}
use Rattle.indices.proofs.Fine.{area_reads}
use Rattle.readers.proofs.IndexWords.{refusal_told, entries_told_lem}
use Rattle.readers.proofs.reading_indices.read_indices.Goals as goal

pub store_sets-requires : goal.store_sets-requires
store_sets-requires c =
    (omega arith, area_reads _ _ _ (sym c.check_area.ensures.value ∙ c.in-Ok.is) (omega arith))

pub returns-in-Err : goal.returns-in-Err
returns-in-Err c =
    let both = refusal_told c.args.area.now _ _ _ c.from.ensures (reading _) (sym c.check_area.ensures.value ∙ c.in-Err.is) in
    record { value = both.0; out_after = both.1.0; entries = both.1.1 }

pub returns-in-Ok : goal.returns-in-Ok
returns-in-Ok c =
    let both = entries_told_lem _ _ _ _ _ c.min.ensures c.store_sets.ensures (reading _) (sym c.check_area.ensures.value ∙ c.in-Ok.is) in
    record { value = both.0; out_after = both.1.0; entries = both.1.1 }

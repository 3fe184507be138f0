-- `nodes_call::answer_area` meets its contract.
use mathlib.Core.Path.{refl}
use Rattle.journal.specs.Scope.{units_of, asking}
use Rattle.node_area.specs.Head.{unit_in}
use Rattle.calls.proofs.Areas.{scanned_malformed, scanned_counted}
use Rattle.calls.specs.UpdateNodes.{area_status, area_after}
use Rattle.node_calls.proofs.nodes_call.answer_area.Goals as goal

pub answer_counted-requires : goal.answer_counted-requires
answer_counted-requires c =
    let told = c.in-Some.ensures.judgement_value in
    let counted = scanned_counted (asking c.args.row.now c.units_in.result) c.args.j.now _ _ refl told.0 in
    (c.requires, record { good = counted.0; counted = counted.1; marked = told.1 })

pub returns-in_default : goal.returns-in_default
unfolding area_status area_after
returns-in_default c =
    let told = rw c.units_in.ensures at c.in_default.ensures.judgement_value in
    rw (scanned_malformed (asking c.args.row.now (units_of c.args.scope (unit_in c.args.area.now))) c.args.j.now _ refl told.0) record { value = refl; area_after = refl }

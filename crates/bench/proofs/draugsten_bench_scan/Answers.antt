-- `draugsten_bench_scan` meets its contract.
use mathlib.Core.Path.{◌≡◌, sym, ◌∙◌}
use native.Mathlib.Omega.{arith}
use Rattle.bench.proofs.Counting.{total_of, light_of}
use Rattle.bench.specs.Inner.Bench.{reported_of}
use Rattle.journal.specs.Reportable.{judgement_of}
use Rattle.journal.specs.Scope.{row_of, selection_of}
use Rattle.journal.proofs.Rows.{row_or}
use Rattle.bench.proofs.draugsten_bench_scan.Goals as goal

pub overflow_add-result : goal.overflow_add-result
overflow_add-result c =
    let row : c.unwrap_or.result ≡ row_of c.args.scope = c.unwrap_or.ensures ∙ rw c.scope_row.ensures.value (row_or c.args.scope) in
    let told : c.scan-counted.result.0 ≡ judgement_of (selection_of c.args.scope c.args.unit) c.args.journal.now = rw (c.units_of.ensures, row) at c.scan-counted.ensures.judgement_value.0 in
    omega (arith, light_of _ _ _ (sym c.in-Some.is ∙ told))

pub overflow_add-result-in-Some : goal.overflow_add-result-in-Some
overflow_add-result-in-Some c =
    let row : c.unwrap_or.result ≡ row_of c.args.scope = c.unwrap_or.ensures ∙ rw c.scope_row.ensures.value (row_or c.args.scope) in
    let told : c.scan-counted.result.0 ≡ judgement_of (selection_of c.args.scope c.args.unit) c.args.journal.now = rw (c.units_of.ensures, row) at c.scan-counted.ensures.judgement_value.0 in
    omega (arith, light_of _ _ _ (sym c.in-Some.is ∙ told))

pub returns-in-None : goal.returns-in-None
unfolding reported_of
returns-in-None c =
    let row : c.unwrap_or.result ≡ row_of c.args.scope = c.unwrap_or.ensures ∙ rw c.scope_row.ensures.value (row_or c.args.scope) in
    let told : c.scan-counted.result.0 ≡ judgement_of (selection_of c.args.scope c.args.unit) c.args.journal.now = rw (c.units_of.ensures, row) at c.scan-counted.ensures.judgement_value.0 in
    total_of _ _ _ (sym c.in-None.is ∙ told)

pub returns-in-Some : goal.returns-in-Some
unfolding reported_of
returns-in-Some c =
    let row : c.unwrap_or.result ≡ row_of c.args.scope = c.unwrap_or.ensures ∙ rw c.scope_row.ensures.value (row_or c.args.scope) in
    let told : c.scan-counted.result.0 ≡ judgement_of (selection_of c.args.scope c.args.unit) c.args.journal.now = rw (c.units_of.ensures, row) at c.scan-counted.ensures.judgement_value.0 in
    total_of _ _ _ (sym c.in-Some.is ∙ told)

-- `month::add_counts` meets its contract.
use mathlib.Core.Path.{sym, ap, ◌∙◌}
use Rattle.totals.specs.Adding.{added_to}
use Rattle.draugsten_replay.specs.Month.{counts_added}
use Rattle.draugsten_replay.proofs.month.add_counts.Goals as goal

pub returns-in-Ok : goal.returns-in-Ok
unfolding counts_added
returns-in-Ok c =
    let a = c.args in
    let e = sym (ap (added_to a.totals) c.figures_of.ensures) ∙ sym c.add.ensures.value ∙ c.in-Ok.is in
    rw e

pub returns-in-Err : goal.returns-in-Err
unfolding counts_added
returns-in-Err c =
    let a = c.args in
    let e = sym (ap (added_to a.totals) c.figures_of.ensures) ∙ sym c.add.ensures.value ∙ c.in-Err.is in
    rw e

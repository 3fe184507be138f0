-- `month::draugsten_month_merge` meets its contract.
use mathlib.Core.Path.{◌≡◌, sym, ◌∙◌}
use mathlib.Core.Bool.{true}
use Rattle.totals.specs.Consistent.{consistent}
use Rattle.draugsten_replay.specs.Month.{merged_to}
use Rattle.draugsten_replay.proofs.Promises.{month_promise}
use Rattle.draugsten_replay.proofs.month.draugsten_month_merge.Goals as goal

pub returns-then-not-is_consistent : goal.returns-then-not-is_consistent
unfolding merged_to
returns-then-not-is_consistent c =
    record { value = rw (sym c.is_consistent.ensures.value ∙ c.if-not-is_consistent.true); promise = month_promise }

pub returns-in-Ok : goal.returns-in-Ok
unfolding merged_to
returns-in-Ok c =
    let fine : consistent c.args.more ≡ true =
    sym c.is_consistent.ensures.value ∙ c.if-not-is_consistent.false in
    record { value = rw (fine, sym c.add.ensures.value ∙ c.in-Ok.is); promise = month_promise }

pub returns-in-Err : goal.returns-in-Err
unfolding merged_to
returns-in-Err c =
    let fine : consistent c.args.more ≡ true =
    sym c.is_consistent.ensures.value ∙ c.if-not-is_consistent.false in
    record { value = rw (fine, sym c.add.ensures.value ∙ c.in-Err.is); promise = month_promise }

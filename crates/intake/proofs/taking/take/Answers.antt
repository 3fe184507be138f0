-- `taking::take` meets its contract.
use mathlib.Core.Path.{sym, ◌∙◌}
use Rattle.intake.proofs.Steps.{sticky, step_done, step_refused}
use Rattle.intake.proofs.taking.take.Goals as goal

pub returns-then-is_stopped : goal.returns-then-is_stopped
returns-then-is_stopped c =
    sym (sticky _ _ (sym c.is_stopped.ensures ∙ c.if-is_stopped.true))

pub returns-in-None : goal.returns-in-None
returns-in-None c =
    step_done _ _ (sym c.is_stopped.ensures ∙ c.if-is_stopped.false) _ c.append-kept.result c.append-kept.ensures.result_after c.in-None.is _ c.saturating_add.ensures

pub returns-in-Some : goal.returns-in-Some
returns-in-Some c =
    step_refused _ _ (sym c.is_stopped.ensures ∙ c.if-is_stopped.false) _ c.append-kept.result c.append-kept.ensures.result_after _ c.in-Some.is

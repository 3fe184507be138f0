-- The law of the steps, at each return of `next`.
use Rattle.node_area.proofs.Steps.{steps_give}
use Rattle.node_area.proofs.reading.Cursor.next.Goals as goal

pub returns-in_err-word-clause-steps : goal.returns-in_err-word-clause-steps
returns-in_err-word-clause-steps c =
    steps_give

pub returns-then-word-eq0-clause-steps : goal.returns-then-word-eq0-clause-steps
returns-then-word-eq0-clause-steps c =
    steps_give

pub returns-clause-steps : goal.returns-clause-steps
returns-clause-steps c =
    steps_give

-- The law of the steps, at each return of `next`.
use Rattle.property_area.proofs.PropertyLaws.{steps_give}
use Rattle.property_area.proofs.reading.Cursor.next.Goals as goal

pub returns-in_err-left-clause-steps : goal.returns-in_err-left-clause-steps
returns-in_err-left-clause-steps c =
    steps_give

pub returns-in_err-found-clause-steps : goal.returns-in_err-found-clause-steps
returns-in_err-found-clause-steps c =
    steps_give

pub returns-clause-steps : goal.returns-clause-steps
returns-clause-steps c =
    steps_give

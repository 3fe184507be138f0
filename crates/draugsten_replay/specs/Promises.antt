-- What is promised of each function of libdraugsten_replay.a. Each function's contract cites one promise, which the header names; a promise is
-- made of the claims about the function and of what they rest on.
use Rattle.printing.specs.Claims.Printing.{DigitsExactly, NamesExactly}
use Rattle.calls.specs.Claims.Calls.{CallClaims}
use Rattle.month_reading.specs.Claims.Answers.{AnswerClaims}
use Rattle.crossing.specs.Claims.Registration.{RegistrationExactly}
use Rattle.draugsten_replay.specs.Claims.Boundary.{BoundaryClaims}
use Rattle.draugsten_replay.specs.Claims.Month.{MonthClaims}

-- draugsten_replay_start, draugsten_replay_feed and draugsten_replay_end
pub record ReplayPromise : Type 0 where
  pub replays : BoundaryClaims
  pub registration : RegistrationExactly
  pub calls : CallClaims

-- draugsten_month_start, draugsten_month_feed, draugsten_month_add, draugsten_month_merge and draugsten_month_share
pub record MonthPromise : Type 0 where
  pub months : MonthClaims
  pub replays : ReplayPromise

-- draugsten_table_write and draugsten_table_read
pub record TablePromise : Type 0 where
  pub answers : AnswerClaims
  pub digits : DigitsExactly
  pub bytes : NamesExactly

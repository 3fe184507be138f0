-- The promises of the archive hold.
use Rattle.printing.proofs.Digits.{digits_exactly}
use Rattle.printing.proofs.NameLaws.{names_exactly}
use Rattle.calls.proofs.Claims.{call_claims}
use Rattle.month_reading.proofs.Answered.{answer_claims}
use Rattle.crossing.proofs.Registrations.{registration_exactly}
use Rattle.draugsten_replay.proofs.Claims.{boundary_claims}
use Rattle.draugsten_replay.proofs.MonthClaims.{month_claims}
use Rattle.draugsten_replay.specs.Promises.{ReplayPromise, MonthPromise, TablePromise}

pub replay_promise : ReplayPromise
replay_promise = record { replays = boundary_claims; registration = registration_exactly; calls = call_claims }

pub month_promise : MonthPromise
month_promise = record { months = month_claims; replays = replay_promise }

pub table_promise : TablePromise
table_promise = record { answers = answer_claims; digits = digits_exactly; bytes = names_exactly }

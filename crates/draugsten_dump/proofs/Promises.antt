-- The promises of the archive hold.
use Rattle.words.proofs.Claims.{numbers_exactly}
use Rattle.dump.proofs.StructureClaims.{structure_exactly}
use Rattle.dump.proofs.Claims.{structure_cases}
use Rattle.dumping.proofs.Claims.{section_claims}
use Rattle.dumping.proofs.RunClaims.{run_claims}
use Rattle.calls.proofs.Claims.{call_claims}
use Rattle.crossing.proofs.Registrations.{faithful, registration_exactly}
use Rattle.draugsten_dump.proofs.Claims.{boundary_claims}
use Rattle.draugsten_dump.specs.Promises.{RunPromise}

pub run_promise : RunPromise
run_promise = record { boundary = boundary_claims; calls = call_claims; registration = faithful; registration_exactly = registration_exactly; runs = run_claims; sections = section_claims; structure = structure_exactly; structures = structure_cases; numbers = numbers_exactly }

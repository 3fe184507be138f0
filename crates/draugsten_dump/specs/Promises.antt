-- What is promised of each function of libdraugsten_dump.a. Each function's contract cites one promise, which the header names; a promise is
-- made of the claims about the function and of what they rest on.
use Rattle.words.specs.Claims.Words.{NumbersExactly}
use Rattle.dump.specs.Claims.Structure.{StructureExactly}
use Rattle.dump.specs.Claims.Dump.{StructureCases}
use Rattle.dumping.specs.Claims.Dumping.{SectionClaims}
use Rattle.dumping.specs.Claims.Run.{RunClaims}
use Rattle.calls.specs.Claims.Calls.{CallClaims}
use Rattle.crossing.specs.Claims.Registration.{Faithful, RegistrationExactly}
use Rattle.draugsten_dump.specs.Claims.Dump.{BoundaryClaims}

-- draugsten_run_dump
pub record RunPromise : Type 0 where
  pub boundary : BoundaryClaims
  pub calls : CallClaims
  pub registration : Faithful
  pub registration_exactly : RegistrationExactly
  pub runs : RunClaims
  pub sections : SectionClaims
  pub structure : StructureExactly
  pub structures : StructureCases
  pub numbers : NumbersExactly

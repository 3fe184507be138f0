-- What is claimed of runs at the C boundary holds.
use mathlib.Core.Path.{refl}
use Rattle.draugsten_dump.specs.Claims.Dump.{BoundaryClaims}
use Rattle.draugsten_dump.proofs.Boundary.{each_flat_run, run_handed_on}
use Rattle.draugsten_dump.proofs.Together.{run_then_call, call_then_run, run_once}

pub boundary_claims : BoundaryClaims
boundary_claims = record { answer_crosses = λ n t m r. refl; each_flat_run = each_flat_run; run_handed_on = run_handed_on; run_then_call = run_then_call; call_then_run = call_then_run; run_once = run_once }

use mathlib.Core.Path.{ap}
use Prim.Native.Nat.{ℕ, ◌+◌}
use native.Mathlib.Omega.{arith}
use Rattle.dumping.proofs.Flags.{flag_times}
use Rattle.dumping.proofs.Runs.{going_next, going_end}
use Rattle.dumping.proofs.running.run_structure.Goals as goal

pub loop-k-preserved : goal.loop-k-preserved
loop-k-preserved c =
    going_next c.loop-k.invariant _ _ c.run_section-failed.result _ _ (omega arith) (omega arith) (omega arith) c.run_section-failed.ensures

pub returns : goal.returns
returns c =
    going_end c.loop-k.invariant _ _ (omega arith) (ap (λ (n : ℕ). 32_768 + n) (flag_times c.loop-k.failed 8192 c.from.result c.from.ensures)) c.store_be16.ensures

-- `running::run_dump` meets its contract.
use Rattle.dumping.proofs.RunClaims.{run_claims}
use Rattle.dumping.proofs.Runs.{run_refused, verdict_active, verdict_none}
use Rattle.dumping.proofs.running.run_dump.Goals as goal

pub returns-in-Active : goal.returns-in-Active
returns-in-Active c =
    let a = c.args in
    record { result_after = run_refused a.platform.now a.memory.now a.registration _ _ (verdict_active a.registration c.in-Active.is) c.refused.ensures; claims = run_claims }

pub returns-in-Registered : goal.returns-in-Registered
returns-in-Registered c =
    record { result_after = c.run_registered.ensures; claims = run_claims }

pub returns-in-Unregistered : goal.returns-in-Unregistered
returns-in-Unregistered c =
    let a = c.args in
    record { result_after = run_refused a.platform.now a.memory.now a.registration _ _ (verdict_none a.registration c.in-Unregistered.is) c.refused-in-Unregistered.ensures; claims = run_claims }

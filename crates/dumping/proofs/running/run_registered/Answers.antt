-- `running::run_registered` meets its contract.
use mathlib.Core.Path.{◌≡◌, sym, ◌∙◌}
use mathlib.Core.Bool.{true}
use Rattle.dumping.specs.Running.{good_copy}
use Rattle.dumping.proofs.Runs.{good_room, run_refused, run_done, verdict_good, verdict_bad}
use Rattle.dumping.proofs.running.run_registered.Goals as goal

pub returns-then-not-is_good_copy : goal.returns-then-not-is_good_copy
returns-then-not-is_good_copy c =
    let a = c.args in
    let bad = sym c.is_good_copy.ensures ∙ c.if-not-is_good_copy.true in
    run_refused a.platform.now a.memory.now a.registration _ _ (verdict_bad a.registration c.requires bad) c.refused.ensures

pub run_structure-requires : goal.run_structure-requires
run_structure-requires c =
    let good : let r = c.args.registration in good_copy r.copy r.len ≡ true =
    sym c.is_good_copy.ensures ∙ c.if-not-is_good_copy.false in
    good_room _ _ (good)

pub returns : goal.returns
returns c =
    let good : let r = c.args.registration in good_copy r.copy r.len ≡ true =
    sym c.is_good_copy.ensures ∙ c.if-not-is_good_copy.false in
    let a = c.args in
    rw (run_done a.platform.now a.memory.now a.registration (verdict_good a.registration c.requires (good)), c.run_structure.ensures.0, c.run_structure.ensures.1)

use mathlib.Core.Path.{sym}
use Rattle.totals.proofs.Sums.{adding_next, adding_not, adding_end, added, not_added}
use Rattle.totals.proofs.Claims.{totals_claims}
use Rattle.totals.proofs.adding.add.Goals as goal

pub returns-in_default : goal.returns-in_default
returns-in_default c =
    let over = adding_not c.loop-i.invariant c.loop-i-test.true c.in_default.ensures in
    record { value = sym (not_added c.args.totals c.args.more over); claims = totals_claims }

pub loop-i-preserved : goal.loop-i-preserved
loop-i-preserved c =
    let fits = c.in-Some.ensures in
    rw fits.1 (adding_next c.loop-i.invariant c.loop-i-test.true fits.0)

pub returns : goal.returns
returns c =
    let e = adding_end c.loop-i.invariant c.loop-i-test.false in
    record { value = rw e.0 (sym (added c.args.totals c.args.more e.1)); claims = totals_claims }

use mathlib.Core.Path.{◌≡◌}
use native.Mathlib.Omega.{arith}
use lib.ListN.{length}
use Rattle.month_reading.proofs.Searches.{line_next, line_here, line_end}
use Rattle.month_reading.proofs.finding.line_length.Goals as goal

pub loop-i-init : goal.loop-i-init
loop-i-init c =
    record { inside = omega arith; same = omega arith }

pub returns-then-text-i-eq10 : goal.returns-then-text-i-eq10
returns-then-text-i-eq10 c =
    line_here c.loop-i.invariant c.loop-i-test.true c.if-text-i-eq10.true

pub loop-i-preserved : goal.loop-i-preserved
loop-i-preserved c =
    line_next c.loop-i.invariant c.loop-i-test.true c.if-text-i-eq10.false

pub returns : goal.returns
returns c =
    let all : c.loop-i.i ≡ length c.args.text.now = omega arith in
    rw (← all) (line_end c.loop-i.invariant (omega arith))

-- The invariant behind an operator with no fault.
use Rattle.std.proofs.Common.{◌≡◌, Ok, arith, sym, ◌∙◌}
use Rattle.node_area.proofs.Verdicts.{stands_fine}
use Rattle.node_area.proofs.reading.check_operators.Goals as goal

pub loop-at-preserved : goal.loop-at-preserved
loop-at-preserved c =
    let fine : c.fault.result ≡ Ok (tt {0}) = grind arith in
    rw (c.last_after-last.ensures, c.operations-entries.ensures, c.count.ensures)
    (stands_fine c.args.area.now c.loop-at.at c.loop-at.last c.loop-at.entries c.loop-at.invariant _ c.requires c.loop-at-test.true c.read_be32-word.ensures c.if-word-eq0.false (sym c.fault.ensures ∙ fine))

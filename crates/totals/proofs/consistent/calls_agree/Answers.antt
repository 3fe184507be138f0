-- `consistent::calls_agree` meets its contract.
use Rattle.std.proofs.Common.{rules}
use Rattle.totals.proofs.Agreeing.{calls_agree_lem}
use Rattle.totals.proofs.consistent.calls_agree.Goals as goal
use Rattle.totals.proofs.consistent.calls_agree.Goals.{then-is_sum, else-is_sum, then-is_sum-2, else-is_sum-2}

pub returns-then-is_sum-3 : goal.returns-then-is_sum-3
returns-then-is_sum-3 c =
    let parts = calls_agree_lem c.args.figures.now (search rules) in
    elim c.if-is_sum.branch [
      | then-is_sum w ↦ elim c.if-is_sum-2.branch [
        | then-is_sum-2 v ↦ rw (parts, ← c.is_sum.ensures, ← w.is_sum-then-is_sum.ensures, ← v.is_sum-then-is_sum-2.ensures, ← c.is_sum-then-is_sum-3.ensures, w.if-is_sum.true, ← w.value-is, v.if-is_sum-2.true, ← v.value-is, c.if-is_sum-3.true)
        | else-is_sum-2 v ↦ cc
      ]
      | else-is_sum w ↦ elim c.if-is_sum-2.branch [ then-is_sum-2 v ↦ cc | else-is_sum-2 v ↦ cc ]
    ]

pub returns-else-is_sum-3 : goal.returns-else-is_sum-3
returns-else-is_sum-3 c =
    let parts = calls_agree_lem c.args.figures.now (search rules) in
    elim c.if-is_sum.branch [
      | then-is_sum w ↦ elim c.if-is_sum-2.branch [
        | then-is_sum-2 v ↦ rw (parts, ← c.is_sum.ensures, ← w.is_sum-then-is_sum.ensures, ← v.is_sum-then-is_sum-2.ensures, w.if-is_sum.true, ← w.value-is, v.if-is_sum-2.true, ← v.value-is, c.if-is_sum-3.false)
        | else-is_sum-2 v ↦ rw (parts, ← c.is_sum.ensures, ← w.is_sum-then-is_sum.ensures, w.if-is_sum.true, ← w.value-is, v.if-is_sum-2.false, c.if-is_sum-3.false)
      ]
      | else-is_sum w ↦ rw (parts, ← c.is_sum.ensures, w.if-is_sum.false, c.if-is_sum-3.false)
    ]

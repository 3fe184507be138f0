-- `consistent::words_agree` meets its contract.
use mathlib.Core.Path.{sym, ◌∙◌}
use mathlib.Core.Bool.{false≢true}
use Rattle.std.proofs.Common.{rules}
use borrow.Author.Tests.{ne_eqb}
use Rattle.totals.proofs.Agreeing.{sum_part, words_agree_lem, words_not}
use Rattle.totals.proofs.consistent.words_agree.Goals as goal
use Rattle.totals.proofs.consistent.words_agree.Goals.{then-available-eq0, else-available-eq0, then-is_sum, else-is_sum}

pub returns-then-operations-used : goal.returns-then-operations-used
returns-then-operations-used c =
    let part = sum_part c.args.figures.now 0 2 (search rules) in
    elim c.if-available-eq0.branch [
      | then-available-eq0 w ↦ elim c.if-is_sum.branch [
        | then-is_sum v ↦ rw (words_agree_lem _ w.if-available-eq0.true, ← part, ← w.is_sum.ensures, ← w.value-is, v.if-is_sum.true, ← v.value-is, c.if-operations-used.true)
        | else-is_sum v ↦ cc
      ]
      | else-available-eq0 w ↦
          let not = sym (w.value-is ∙ ne_eqb _ 0 w.if-available-eq0.false) in
          elim c.if-is_sum.branch [
            | then-is_sum v ↦ absurd (false≢true (not ∙ v.if-is_sum.true))
            | else-is_sum v ↦ absurd (false≢true (not ∙ sym v.value-is ∙ c.if-operations-used.true))
          ]
    ]

pub returns-else-operations-used : goal.returns-else-operations-used
returns-else-operations-used c =
    let part = sum_part c.args.figures.now 0 2 (search rules) in
    elim c.if-available-eq0.branch [
      | then-available-eq0 w ↦ elim c.if-is_sum.branch [
        | then-is_sum v ↦ rw (words_agree_lem _ w.if-available-eq0.true, ← part, ← w.is_sum.ensures, ← w.value-is, v.if-is_sum.true, ← v.value-is, c.if-operations-used.false)
        | else-is_sum v ↦ rw (words_agree_lem _ w.if-available-eq0.true, ← part, ← w.is_sum.ensures, ← w.value-is, v.if-is_sum.false, c.if-operations-used.false)
      ]
      | else-available-eq0 w ↦ rw (words_not _ w.if-available-eq0.false, c.if-operations-used.false)
    ]

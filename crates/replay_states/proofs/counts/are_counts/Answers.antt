-- `counts::are_counts` meets its contract.
use mathlib.Core.Path.{◌≡◌, refl, sym, ◌∙◌}
use mathlib.Core.Bool.{true}
use native.Mathlib.Omega.{arith}
use borrow.Author.Tests.{le-leb, lt-leb}
use Rattle.counting.specs.Figures.{sum_of}
use Rattle.replay_states.proofs.States.{at_most_one}
use Rattle.replay_states.proofs.Counted.{made, counts_tests, made-is, rows_low}
use Rattle.replay_states.proofs.counts.are_counts.Goals as goal

pub made_came-requires : goal.made_came-requires
made_came-requires c =
    (omega (arith, c.calls_counted-made.ensures), rw c.waits_in.ensures (at_most_one c.args.flat.waiting))

pub returns-then-not-made_came : goal.returns-then-not-made_came
returns-then-not-made_came c =
    let counted : let a = c.args in made a.flat (sum_of 28 a.counts.rows) ≡ c.made_came.result =
    made-is c.args.flat c.args.counts c.requires _ c.calls_counted-made.ensures ∙ sym (rw c.waits_in.ensures at c.made_came.ensures) in
    let a = c.args in
    counts_tests a.flat a.counts (counted ∙ c.if-not-made_came.true) refl refl

pub returns-then-counts : goal.returns-then-counts
returns-then-counts c =
    let counted : let a = c.args in made a.flat (sum_of 28 a.counts.rows) ≡ c.made_came.result =
    made-is c.args.flat c.args.counts c.requires _ c.calls_counted-made.ensures ∙ sym (rw c.waits_in.ensures at c.made_came.ensures) in
    let were_made : let a = c.args in made a.flat (sum_of 28 a.counts.rows) ≡ true =
    counted ∙ c.if-not-made_came.false in
    let a = c.args in
    counts_tests a.flat a.counts (were_made) (lt-leb a.counts.operations a.counts.used (omega (arith, c.if-counts.true))) refl

pub overflow_add-result : goal.overflow_add-result
overflow_add-result c =
    let counted : let a = c.args in made a.flat (sum_of 28 a.counts.rows) ≡ c.made_came.result =
    made-is c.args.flat c.args.counts c.requires _ c.calls_counted-made.ensures ∙ sym (rw c.waits_in.ensures at c.made_came.ensures) in
    let were_made : let a = c.args in made a.flat (sum_of 28 a.counts.rows) ≡ true =
    counted ∙ c.if-not-made_came.false in
    record { fits = omega (arith, rows_low c.args.flat c.args.counts c.requires (were_made)) }

pub overflow_mul-result : goal.overflow_mul-result
overflow_mul-result c =
    let counted : let a = c.args in made a.flat (sum_of 28 a.counts.rows) ≡ c.made_came.result =
    made-is c.args.flat c.args.counts c.requires _ c.calls_counted-made.ensures ∙ sym (rw c.waits_in.ensures at c.made_came.ensures) in
    let were_made : let a = c.args in made a.flat (sum_of 28 a.counts.rows) ≡ true =
    counted ∙ c.if-not-made_came.false in
    record { fits = omega (arith, rows_low c.args.flat c.args.counts c.requires (were_made)) }

pub returns : goal.returns
returns c =
    let counted : let a = c.args in made a.flat (sum_of 28 a.counts.rows) ≡ c.made_came.result =
    made-is c.args.flat c.args.counts c.requires _ c.calls_counted-made.ensures ∙ sym (rw c.waits_in.ensures at c.made_came.ensures) in
    let were_made : let a = c.args in made a.flat (sum_of 28 a.counts.rows) ≡ true =
    counted ∙ c.if-not-made_came.false in
    let a = c.args in
    counts_tests a.flat a.counts (were_made) (le-leb a.counts.operations a.counts.used (omega (arith, c.if-counts.false))) refl

-- `month::draugsten_month_add` meets its contract.
use mathlib.Core.Path.{◌≡◌, refl, sym, ◌∙◌}
use mathlib.Core.Bool.{true}
use borrow.Author.Rules.{rules}
use borrow.Author.Tests.{not-true, not-false}
use Rattle.counting.specs.Claims.Terms.{Within}
use Rattle.counting.proofs.Growing.{within_later}
use Rattle.replay.specs.Feeding.{end_of}
use Rattle.replay_states.specs.States.{report_of, waits}
use Rattle.replay_states.proofs.States.{few, narrow}
use Rattle.replay_states.proofs.Counted.{counts_within_lem}
use Rattle.draugsten_replay.specs.Month.{is_counting, month_added}
use Rattle.draugsten_replay.proofs.Sessions.{state_of_lem, counts_of_lem}
use Rattle.draugsten_replay.proofs.Months.{added_agreed, added_over}
use Rattle.draugsten_replay.proofs.Promises.{month_promise}
use Rattle.draugsten_replay.proofs.month.draugsten_month_add.Goals as goal

pub returns-then-not-is_counting : goal.returns-then-not-is_counting
unfolding month_added
returns-then-not-is_counting c =
    rw (sym c.is_counting.ensures ∙ c.if-not-is_counting.true) (record { value = refl; promise = month_promise })

pub replay_of-requires : goal.replay_of-requires
replay_of-requires c =
    let passed : is_counting c.args.from ≡ true =
    sym c.is_counting.ensures ∙ c.if-not-is_counting.false in
    narrow c.args.from.replay (state_of_lem c.args.from (passed))

pub end-report-requires : goal.end-report-requires
end-report-requires c =
    let passed : is_counting c.args.from ≡ true =
    sym c.is_counting.ensures ∙ c.if-not-is_counting.false in
    rw c.replay_of.ensures (few c.args.from.replay (state_of_lem c.args.from (passed)))

pub add_counts-requires : goal.add_counts-requires
add_counts-requires c =
    let passed : is_counting c.args.from ≡ true =
    sym c.is_counting.ensures ∙ c.if-not-is_counting.false in
    let within : Within 4_294_967_295 c.args.from.counts =
    let f = c.args.from in
    let is = state_of_lem f (passed) in
    within_later f.replay.records f.counts (counts_within_lem f.replay f.counts is (search rules) (counts_of_lem f (passed))) 4_294_967_295 (few f.replay is) in
    within

pub returns-then-is_going : goal.returns-then-is_going
unfolding month_added
returns-then-is_going c =
    let passed : is_counting c.args.from ≡ true =
    sym c.is_counting.ensures ∙ c.if-not-is_counting.false in
    let told : let f = c.args.from.replay in c.end-report.result ≡ end_of (report_of f.report) f.records (waits f) f.held =
    rw c.replay_of.ensures at c.end-report.ensures.value in
    let going = not-true _ (sym c.is_going.ensures ∙ c.if-is_going.true) in
    rw (passed, ← told, c.add_counts.ensures, c.flat_report_of-flat.ensures, added_agreed c.args.totals c.end-report.result _ going) (record { value = refl; promise = month_promise })

pub returns : goal.returns
unfolding month_added
returns c =
    let passed : is_counting c.args.from ≡ true =
    sym c.is_counting.ensures ∙ c.if-not-is_counting.false in
    let told : let f = c.args.from.replay in c.end-report.result ≡ end_of (report_of f.report) f.records (waits f) f.held =
    rw c.replay_of.ensures at c.end-report.ensures.value in
    let over = not-false _ (sym c.is_going.ensures ∙ c.if-is_going.false) in
    rw (passed, ← told, c.flat_report_of-flat.ensures, added_over c.args.totals c.end-report.result _ over) (record { value = refl; promise = month_promise })

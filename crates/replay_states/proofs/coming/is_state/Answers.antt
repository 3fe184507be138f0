-- `coming::is_state` meets its contract.
use mathlib.Core.Path.{◌≡◌, refl, sym, ◌∙◌}
use mathlib.Core.Bool.{true}
use native.Mathlib.Omega.{arith}
use lib.Dec.{leb, eqb, ltb}
use borrow.Author.Tests.{le-leb, lt-leb}
use Rattle.crossing.specs.Registration.{registration_of}
use Rattle.crossing.specs.Record.{reading_of}
use Rattle.trace.specs.Came.{calls_for, waits_in, report_came}
use Rattle.replay_states.specs.declared.state.FlatReplay.{FlatReplay}
use Rattle.replay_states.specs.States.{report_of, is_report}
use Rattle.replay_states.proofs.StateClaims.{states_exactly}
use Rattle.replay_states.proofs.States.{at_most_one, at_most_two, calls_are, state_tests}
use Rattle.replay_states.proofs.coming.is_state.Goals as goal

pub returns-then-not-is_report : goal.returns-then-not-is_report
returns-then-not-is_report c =
    record { value = state_tests c.args.flat (sym c.is_report.ensures ∙ c.if-not-is_report.true) refl refl refl refl refl refl; claims = states_exactly }

pub returns-then-flat-gt4294967295 : goal.returns-then-flat-gt4294967295
returns-then-flat-gt4294967295 c =
    let flat : FlatReplay =
    c.args.flat in
    let reports : is_report flat.report ≡ true =
    sym c.is_report.ensures ∙ c.if-not-is_report.false in
    record { value = state_tests (flat) (reports) (lt-leb _ _ c.if-flat-gt4294967295.true) refl refl refl refl refl; claims = states_exactly }

pub returns-then-flat-gt4101 : goal.returns-then-flat-gt4101
returns-then-flat-gt4101 c =
    let flat : FlatReplay =
    c.args.flat in
    let reports : is_report flat.report ≡ true =
    sym c.is_report.ensures ∙ c.if-not-is_report.false in
    let few : leb flat.records 4_294_967_295 ≡ true =
    le-leb _ _ c.if-flat-gt4294967295.false in
    record { value = state_tests (flat) (reports) (few) (lt-leb _ _ c.if-flat-gt4101.true) refl refl refl refl; claims = states_exactly }

pub report_came-requires : goal.report_came-requires
report_came-requires c =
    let flat : FlatReplay =
    c.args.flat in
    let f = flat in
    (omega (arith, c.if-flat-gt4294967295.false), (rw c.waits_in.ensures (at_most_one f.waiting), rw c.calls_for-least.ensures (at_most_two (eqb f.registration.phase 1) (ltb 1 f.reading.number))))

pub returns-then-not-report_came : goal.returns-then-not-report_came
returns-then-not-report_came c =
    let flat : FlatReplay =
    c.args.flat in
    let reports : is_report flat.report ≡ true =
    sym c.is_report.ensures ∙ c.if-not-is_report.false in
    let few : leb flat.records 4_294_967_295 ≡ true =
    le-leb _ _ c.if-flat-gt4294967295.false in
    let short : leb flat.waiting 4101 ≡ true =
    le-leb _ _ c.if-flat-gt4101.false in
    let counts : let f = flat in report_came (report_of f.report) f.records (waits_in f.waiting) (calls_for (registration_of f.registration) (reading_of f.reading)) ≡ c.report_came.result =
    sym (rw (c.waits_in.ensures, c.calls_for-least.ensures, calls_are (flat)) at c.report_came.ensures) in
    record { value = state_tests (flat) (reports) (few) (short) (counts ∙ c.if-not-report_came.true) refl refl refl; claims = states_exactly }

pub returns-then-not-registration_came : goal.returns-then-not-registration_came
returns-then-not-registration_came c =
    let flat : FlatReplay =
    c.args.flat in
    let reports : is_report flat.report ≡ true =
    sym c.is_report.ensures ∙ c.if-not-is_report.false in
    let few : leb flat.records 4_294_967_295 ≡ true =
    le-leb _ _ c.if-flat-gt4294967295.false in
    let short : leb flat.waiting 4101 ≡ true =
    le-leb _ _ c.if-flat-gt4101.false in
    let counts : let f = flat in report_came (report_of f.report) f.records (waits_in f.waiting) (calls_for (registration_of f.registration) (reading_of f.reading)) ≡ c.report_came.result =
    sym (rw (c.waits_in.ensures, c.calls_for-least.ensures, calls_are (flat)) at c.report_came.ensures) in
    let counted : let f = flat in report_came (report_of f.report) f.records (waits_in f.waiting) (calls_for (registration_of f.registration) (reading_of f.reading)) ≡ true =
    counts ∙ c.if-not-report_came.false in
    record {
      value = state_tests (flat) (reports) (few) (short) (counted)
          (sym c.registration_came.ensures ∙ c.if-not-registration_came.true) refl refl;
      claims = states_exactly;
    }

pub returns-then-not-reading_came : goal.returns-then-not-reading_came
returns-then-not-reading_came c =
    let flat : FlatReplay =
    c.args.flat in
    let reports : is_report flat.report ≡ true =
    sym c.is_report.ensures ∙ c.if-not-is_report.false in
    let few : leb flat.records 4_294_967_295 ≡ true =
    le-leb _ _ c.if-flat-gt4294967295.false in
    let short : leb flat.waiting 4101 ≡ true =
    le-leb _ _ c.if-flat-gt4101.false in
    let counts : let f = flat in report_came (report_of f.report) f.records (waits_in f.waiting) (calls_for (registration_of f.registration) (reading_of f.reading)) ≡ c.report_came.result =
    sym (rw (c.waits_in.ensures, c.calls_for-least.ensures, calls_are (flat)) at c.report_came.ensures) in
    let counted : let f = flat in report_came (report_of f.report) f.records (waits_in f.waiting) (calls_for (registration_of f.registration) (reading_of f.reading)) ≡ true =
    counts ∙ c.if-not-report_came.false in
    record {
      value = state_tests (flat) (reports) (few) (short) (counted)
          (sym c.registration_came.ensures ∙ c.if-not-registration_came.false) (sym c.reading_came.ensures ∙ c.if-not-reading_came.true) refl;
      claims = states_exactly;
    }

pub returns : goal.returns
returns c =
    let flat : FlatReplay =
    c.args.flat in
    let reports : is_report flat.report ≡ true =
    sym c.is_report.ensures ∙ c.if-not-is_report.false in
    let few : leb flat.records 4_294_967_295 ≡ true =
    le-leb _ _ c.if-flat-gt4294967295.false in
    let short : leb flat.waiting 4101 ≡ true =
    le-leb _ _ c.if-flat-gt4101.false in
    let counts : let f = flat in report_came (report_of f.report) f.records (waits_in f.waiting) (calls_for (registration_of f.registration) (reading_of f.reading)) ≡ c.report_came.result =
    sym (rw (c.waits_in.ensures, c.calls_for-least.ensures, calls_are (flat)) at c.report_came.ensures) in
    let counted : let f = flat in report_came (report_of f.report) f.records (waits_in f.waiting) (calls_for (registration_of f.registration) (reading_of f.reading)) ≡ true =
    counts ∙ c.if-not-report_came.false in
    record {
      value = c.held_came.ensures
          ∙ state_tests (flat) (reports) (few) (short) (counted)
          (sym c.registration_came.ensures ∙ c.if-not-registration_came.false) (sym c.reading_came.ensures ∙ c.if-not-reading_came.false) refl;
      claims = states_exactly;
    }

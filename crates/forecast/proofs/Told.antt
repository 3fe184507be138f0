-- What the code tests and adds tells the answer of three counts.
use mathlib.Core.Path.{◌≡◌, sym, ap, ◌∙◌}
use mathlib.Core.Bool.{Bool, true, false, cond}
use Prim.Native.Nat.{ℕ, ◌+◌, ◌-◌, ◌≤◌}
use native.Mathlib.Omega.{arith}
use lib.Dec.{ltb}
use borrow.Author.Tests.{lt-ltb, le-ltb, ltb-true, ltb-false}
use Rattle.words.proofs.Choice.{decide}
use Rattle.journal.specs.declared.counts.Counts.{Counts}
use Rattle.node_area.specs.State.{total, is_within, remaining_of}
use Rattle.nodes.specs.Run.{area_words, cut}
use Rattle.nodes.proofs.Cut.{cut_is}
use Rattle.calls.specs.declared.status.Status.TheVariants.{Done, Again}
use Rattle.forecast.specs.declared.forecasting.Forecast.{Forecast}
use Rattle.forecast.specs.Forecast.{refused, answer_from}

-- below all three counts, without their sum
pub below_rest : (n : ℕ) (all : Counts) → all.deletes ≤ n → all.updates ≤ n - all.deletes → ltb (n - all.deletes - all.updates) all.additions ≡ ltb n (total all)
below_rest n all d u =
    let rest = n - all.deletes - all.updates in
    decide (ltb rest all.additions)
    (λ t. t ∙ sym (lt-ltb n (total all) (omega (arith, ltb-true rest all.additions t))))
    (λ t. t ∙ sym (le-ltb n (total all) (omega (arith, ltb-false rest all.additions t))))

-- a run is short
pub run_few : (run left : Counts) → run ≡ cut left → total run ≤ area_words
run_few run left e = rw e (omega (arith, (cut_is left).fits))

-- the answer with operations behind it or not
abbrev pub answered : Bool → ℕ → Forecast
answered more after =
    let again : Forecast = record { status = Again; next = after } in
    let done : Forecast = record { status = Done; next = 0 } in
    cond more again done

-- by a number that is the state, and a run of what remains behind it
module _ (all : Counts) (state before : ℕ) (same : before ≡ state) where
  pub told_outside : is_within before (total all) ≡ false → refused ≡ answer_from all state
  unfolding answer_from
  told_outside e = rw (← same, e)

  pub told_inside : (left run : Counts) (more : Bool) → is_within before (total all) ≡ true → left ≡ remaining_of all state → run ≡ cut left → more ≡ ltb (before + total run) (total all)
      → answered more (before + total run) ≡ answer_from all state
  unfolding answer_from
  told_inside left run more e l r m = rw (← (r ∙ ap cut l), ← same, e, ← m)

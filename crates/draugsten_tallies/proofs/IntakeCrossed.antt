-- Intakes cross as they are, and which of them are taken.
use mathlib.Core.Path.{◌≡◌, refl, ap, sym, ◌∙◌}
use mathlib.Core.Bool.{true, false, false≢true}
use mathlib.Core.List.{List}
use Prim.Native.Nat.{ℕ, ◌≤◌, ◌<◌}
use native.Mathlib.Omega.{arith}
use lib.Dec.{ltb, eqb}
use lib.ListN.{length}
use borrow.Author.Tests.{ltb-true, ltb-false, lt-ltb, le-ltb, eqb-true, ne_eqb}
use Rattle.std.specs.Prelude.{Option, Some, None}
use Rattle.words.proofs.Choice.{decide}
use Rattle.tallies.specs.declared.keeping.Refusal.{Refusal}
use Rattle.tallies.specs.declared.keeping.Refusal.TheVariants.{Malformed, NoRoom, Unfit}
use Rattle.intake.specs.declared.bursts.Intake.{Intake}
use Rattle.intake.specs.States.{ready_for}
use Rattle.intake.proofs.Claims.{intake_claims}
use Rattle.intake.proofs.Taken.{ready_exactly}
use Rattle.draugsten_tallies.specs.Flat.{tallied_from, outcome_number}
use Rattle.draugsten_tallies.specs.Intakes.{fault_from, intake_from, state_number}
use Rattle.draugsten_tallies.specs.Claims.Intakes.{EachIntakeCrosses, EachIntakeComes, IntakeReturns, FaultsTaken, EachState, StartTaken, LeftTaken}
use Rattle.draugsten_tallies.proofs.Crossed.{each_crosses}

-- ---- the parts of an intake

fault_returns : (o : Option Refusal) → fault_from (outcome_number o) ≡ o
fault_returns None = refl
fault_returns (Some Malformed) = refl
fault_returns (Some NoRoom) = refl
fault_returns (Some Unfit) = refl

pub each_intake_crosses : EachIntakeCrosses
each_intake_crosses i =
    let back = sym (fault_returns i.place.fault) in
    record {
      journal = each_crosses i.place.journal;
      number = refl;
      held = refl;
      none = (λ e. ap outcome_number e, λ e. back ∙ ap fault_from e);
      malformed = (λ e. ap outcome_number e, λ e. back ∙ ap fault_from e);
      no_room = (λ e. ap outcome_number e, λ e. back ∙ ap fault_from e);
    }

pub returns : IntakeReturns
returns i = rw (fault_returns i.place.fault)

-- a number that comes in for a fault of a stream is that fault's own
number_comes : (n : ℕ) → (fault_from n ≡ Some Unfit → ⊥) → n ≡ outcome_number (fault_from n)
number_comes n real = decide (eqb n 0) (λ a. rw a (eqb-true n 0 a))
    (λ a. decide (eqb n 50) (λ b. rw (a, b) (eqb-true n 50 b)) (λ b. decide (eqb n 51) (λ c. rw (a, b, c) (eqb-true n 51 c)) (λ c. absurd (real (rw (a, b, c))))))

number_of : (n : ℕ) (o : Option Refusal) → (outcome_number o ≡ 52 → ⊥) → fault_from n ≡ o → n ≡ outcome_number o
number_of n o some e = number_comes n (λ u. some (ap outcome_number (sym e ∙ u))) ∙ ap outcome_number e

pub each_intake_comes : EachIntakeComes
each_intake_comes f = record {
  journal = each_crosses (tallied_from f.journal);
  number = refl;
  held = refl;
  none = (number_of f.fault None (λ z. omega arith), λ e. ap fault_from e);
  malformed = (number_of f.fault (Some Malformed) (λ z. omega arith), λ e. ap fault_from e);
  no_room = (number_of f.fault (Some NoRoom) (λ z. omega arith), λ e. ap fault_from e);
}

pub faults_taken : FaultsTaken
faults_taken f a b c = rw (ne_eqb f.fault 0 a, ne_eqb f.fault 50 b, ne_eqb f.fault 51 c)

-- ---- the number of a state

module _ (store : List ℕ) (size : ℕ) (i : Intake) where
  is_small : length store < 32_808 → state_number store size i ≡ 55
  unfolding state_number
  is_small l = rw (lt-ltb _ _ l)

  is_taken_lem : 32_808 ≤ length store → ready_for store size i ≡ true → state_number store size i ≡ 0
  unfolding state_number
  is_taken_lem l t = rw (le-ltb _ _ l, t)

  is_unfit : 32_808 ≤ length store → ready_for store size i ≡ false → state_number store size i ≡ 54
  unfolding state_number
  is_unfit l t = rw (le-ltb _ _ l, t)

pub each_state : EachState
each_state buffer store i = decide (ltb (length store) 32_808)
    (λ s.
    let l = ltb-true _ _ s in
    let n = is_small store (length buffer) i l in
    record {
      small = (λ _. l, λ _. n);
      taken = (λ z. absurd (omega arith), λ r. absurd (omega (arith, r.room)));
      unfit = (λ z. absurd (omega arith), λ p. absurd (omega (arith, p.0)));
    })
    (λ s.
    let l = ltb-false _ _ s in
    let e = ready_exactly buffer store i l in
    decide (ready_for store (length buffer) i)
    (λ t.
    let n = is_taken_lem store (length buffer) i l t in
    record {
      small = (λ z. absurd (omega arith), λ m. absurd (omega arith));
      taken = (λ _. e.0 t, λ _. n);
      unfit = (λ z. absurd (omega arith), λ p. absurd (p.1 (e.0 t)));
    })
    (λ t.
    let n = is_unfit store (length buffer) i l t in
    record {
      small = (λ z. absurd (omega arith), λ m. absurd (omega arith));
      taken = (λ z. absurd (omega arith), λ r. absurd (false≢true (sym t ∙ e.1 r)));
      unfit = (λ _. (l, λ r. false≢true (sym t ∙ e.1 r)), λ _. n);
    }))

pub start_taken : StartTaken
start_taken buffer store t room fit = (each_state buffer store _).taken.1 (intake_claims.start_ready buffer store t room fit).0

pub left_taken : LeftTaken
left_taken buffer store bufferThen storeThen bytes i r e b = (each_state bufferThen storeThen (intake_from r.intake)).taken.1 (b.taken e).bursts.ready

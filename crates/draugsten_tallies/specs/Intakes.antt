-- Intakes as they cross the C boundary (document 02, M-109).
use Rattle.std.specs.Prelude.{ℕ, ◌≡◌, cond, List, ltb, eqb, length, Option, Some, None}
use Rattle.tallies.specs.declared.keeping.Refusal.{Refusal}
use Rattle.tallies.specs.declared.keeping.Refusal.TheVariants.{Malformed, NoRoom, Unfit}
use Rattle.intake.specs.declared.bursts.Intake.{Intake}
use Rattle.intake.specs.declared.bursts.Ending.{Ending}
use Rattle.intake.specs.declared.bursts.Ending.TheVariants as ending
use Rattle.intake.specs.Bursts.{Bursts, end_of}
use Rattle.intake.specs.States.{ready_for}
use Rattle.draugsten_tallies.specs.declared.intakes.FlatIntake.{FlatIntake}
use Rattle.draugsten_tallies.specs.declared.intakes.FlatBurst.{FlatBurst}
use Rattle.draugsten_tallies.specs.declared.intakes.FlatEnd.{FlatEnd}
use Rattle.draugsten_tallies.specs.Flat.{flat_tallied, tallied_from, outcome_number}

-- ---- the state

abbrev pub fault_from : ℕ → Option Refusal
fault_from n = cond (eqb n 0) None (cond (eqb n 50) (Some Malformed) (cond (eqb n 51) (Some NoRoom) (Some Unfit)))

abbrev pub flat_intake : Intake → FlatIntake
flat_intake i = record { journal = flat_tallied i.place.journal; number = i.place.number; held = i.held; fault = outcome_number i.place.fault }

abbrev pub intake_from : FlatIntake → Intake
intake_from f = record { place = record { journal = tallied_from f.journal; number = f.number; fault = fault_from f.fault }; held = f.held }

-- DECISIONS: "55 is told before 54, and both before all else": 55 a store under 32,808 bytes, 54 a state whose parts do not fit, else 0
unfoldable pub state_number : List ℕ → ℕ → Intake → ℕ
state_number store size i = cond (ltb (length store) 32_808) 55 (cond (ready_for store size i) 0 54)

-- a state or a store that is refused: "and changes nothing"
pub record RefusedBurst (n : ℕ) (buffer store : List ℕ) (i : FlatIntake) (bufferThen storeThen : List ℕ) (r : FlatBurst) : Type 0 where
  pub number : r.number ≡ n
  pub record_is : r.in_record ≡ 0
  pub intake : r.intake ≡ i
  pub buffer_same : bufferThen ≡ buffer
  pub store_same : storeThen ≡ store

-- one that is taken: as the burst of an intake, whose fault is told with the number of its record
pub record TakenBurst (buffer store : List ℕ) (i : FlatIntake) (bytes bufferThen storeThen : List ℕ) (r : FlatBurst) : Type 0 where
  pub bursts : Bursts buffer store (intake_from i) bytes bufferThen storeThen (intake_from r.intake)
  pub number : r.number ≡ r.intake.fault
  pub none : r.number ≡ 0 → r.in_record ≡ 0
  pub record_is : (r.number ≡ 0 → ⊥) → r.in_record ≡ r.intake.number

pub record FlatBursts (buffer store : List ℕ) (i : FlatIntake) (bytes bufferThen storeThen : List ℕ) (r : FlatBurst) : Type 0 where
  pub refused : (state_number store (length buffer) (intake_from i) ≡ 0 → ⊥)
      → RefusedBurst (state_number store (length buffer) (intake_from i)) buffer store i bufferThen storeThen r
  pub taken : state_number store (length buffer) (intake_from i) ≡ 0 → TakenBurst buffer store i bytes bufferThen storeThen r

-- ---- an end

abbrev pub answering : ℕ → ℕ → FlatEnd
answering number n = record { number = number; in_record = n }

-- 53 unfinished
abbrev pub flat_end : Ending → FlatEnd
flat_end ending.Nothing = answering 0 0
flat_end (ending.Unfinished n) = answering 53 n
flat_end (ending.Malformed n) = answering 50 n
flat_end (ending.NoRoom n) = answering 51 n
flat_end (ending.Unfit n) = answering 54 0

unfoldable pub end_answer : ℕ → List ℕ → FlatIntake → FlatEnd
end_answer size store f =
    let n = state_number store size (intake_from f) in
    cond (eqb n 0) (flat_end (end_of (intake_from f))) (answering n 0)

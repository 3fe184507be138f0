-- What a burst and an end answer.
use mathlib.Core.Path.{◌≡◌, refl, ap, sym, ◌∙◌}
use mathlib.Core.Bool.{false}
use mathlib.Core.List.{List}
use Prim.Native.Nat.{ℕ}
use native.Mathlib.Omega.{arith}
use lib.Dec.{eqb}
use lib.ListN.{length}
use borrow.Author.Tests.{eq-eqb, ne_eqb}
use Rattle.std.specs.Prelude.{Option, Some, None}
use Rattle.tallies.specs.declared.keeping.Refusal.{Refusal}
use Rattle.tallies.specs.declared.keeping.Refusal.TheVariants as refusal
use Rattle.intake.specs.declared.bursts.Intake.{Intake}
use Rattle.intake.specs.declared.bursts.Ending.{Ending}
use Rattle.intake.specs.Bursts.{Bursts, end_of}
use Rattle.draugsten_tallies.specs.declared.intakes.Unready.{Unready}
use Rattle.draugsten_tallies.specs.declared.intakes.Unready.TheVariants.{Small, Unfit}
use Rattle.draugsten_tallies.specs.declared.intakes.FlatIntake.{FlatIntake}
use Rattle.draugsten_tallies.specs.declared.intakes.FlatBurst.{FlatBurst}
use Rattle.draugsten_tallies.specs.Flat.{outcome_number}
use Rattle.draugsten_tallies.specs.Intakes.{flat_intake, intake_from, state_number, FlatBursts, answering, flat_end, end_answer}
use Rattle.draugsten_tallies.specs.Inner.Terms.{record_by, record_for, unready_number}
use Rattle.draugsten_tallies.proofs.IntakeCrossed.{returns}

-- the number of the record at fault

record_none : (o : Option Refusal) (n : ℕ) → outcome_number o ≡ 0 → record_by o n ≡ 0
record_none None n e = refl
record_none (Some refusal.Malformed) n e = absurd (omega arith)
record_none (Some refusal.NoRoom) n e = absurd (omega arith)
record_none (Some refusal.Unfit) n e = absurd (omega arith)

record_some : (o : Option Refusal) (n : ℕ) → (outcome_number o ≡ 0 → ⊥) → record_by o n ≡ n
record_some None n f = absurd (f refl)
record_some (Some r) n f = refl

-- a state that is refused has a number

pub unready_some : (u : Unready) → unready_number u ≡ 0 → ⊥
unready_some Small e = absurd (omega arith)
unready_some Unfit e = absurd (omega arith)

-- a state that came in by its flat form, refused or taken

module _ (store : List ℕ) (i : FlatIntake) {from : Intake} {n : ℕ} (came : from ≡ intake_from i) where
  module _ {buffer bytes : List ℕ} (said : n ≡ state_number store (length buffer) from) where
    pub burst_refused : (n ≡ 0 → ⊥) → FlatBursts buffer store i bytes buffer store (record { number = n; in_record = 0; intake = i })
    burst_refused some =
        let number = said ∙ ap (state_number store (length buffer)) came in
        record { refused = λ _. record { number = number; record_is = refl; intake = refl; buffer_same = refl; store_same = refl }; taken = λ z. absurd (some (number ∙ z)) }

    pub burst_taken : {bufferThen storeThen : List ℕ} {next : Intake} (r : FlatBurst) → n ≡ 0 → Bursts buffer store from bytes bufferThen storeThen next
        → r.number ≡ outcome_number next.place.fault → r.in_record ≡ record_for next.place → r.intake ≡ flat_intake next → FlatBursts buffer store i bytes bufferThen storeThen r
    burst_taken {next = next} r none b number in-record intake =
        let back : next ≡ intake_from r.intake = sym (returns next) ∙ ap intake_from (sym intake) in
        record {
          refused = λ some. absurd (some (sym (said ∙ ap (state_number store (length buffer)) came) ∙ none));
          taken = λ _. record {
            bursts = rw (came, back) at b;
            number = rw intake number;
            none = λ z. in-record ∙ record_none next.place.fault _ (sym number ∙ z);
            record_is = λ some. rw intake (in-record ∙ record_some next.place.fault _ (λ z. some (number ∙ z)));
          };
        }

  module _ (size : ℕ) (said : n ≡ state_number store size from) where
    pub end_refused : (n ≡ 0 → ⊥) → answering n 0 ≡ end_answer size store i
    unfolding end_answer
    end_refused some =
        let number = said ∙ ap (state_number store size) came in
        let none : eqb (state_number store size (intake_from i)) 0 ≡ false = ne_eqb _ 0 (λ z. some (number ∙ z)) in
        rw (none, number)

    pub end_taken : {e : Ending} → n ≡ 0 → e ≡ end_of from → flat_end e ≡ end_answer size store i
    unfolding end_answer
    end_taken none e = rw (eq-eqb _ 0 (sym (said ∙ ap (state_number store size) came) ∙ none)) (ap flat_end (e ∙ ap end_of came))

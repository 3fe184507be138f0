-- What the number of a call tells of its argument buffer, and what a call gives by its number.
use mathlib.Core.Path.{◌≡◌, refl, sym, ap, ◌∙◌}
use mathlib.Core.Bool.{Bool, true, false, cond, ◌&&◌, ◌||◌, false≢true}
use mathlib.Core.List.{List, ◌∷◌}
use Prim.Native.Nat.{ℕ, ◌+◌, ◌*◌, ◌≤◌, ◌<◌}
use native.Mathlib.Omega.{arith}
use lib.Dec.{ltb, eqb}
use lib.ListN.{length}
use lib.Seq.{sets}
use borrow.Author.Tests.{le-ltb, ltb-false, eq-eqb, eqb-false, eqb-true}
use Rattle.words.proofs.Choice.{choose, decide, and_left, and_right}
use Rattle.words.specs.Numbers.{word_bytes}
use Rattle.calls.specs.declared.status.Number.{Number}
use Rattle.calls.specs.declared.status.Number.TheVariants.{Given, Short, NoOutputs, TooMany}
use Rattle.calls.specs.Status.{number_of, is_given, status_word}
use Rattle.calls.specs.Buffer.{token, inputs, outputs, is_nodes, is_indices, is_dump, is_properties, status_at, number_for, asks}
use Rattle.calls.specs.Buffer.{Outcome, nodes_outcome, indices_outcome, dump_outcome, properties_outcome, refusal, Found, Left, leaves, outcome, call_of}
use Rattle.calls.specs.Claims.Terms.{HasStatus}

pub record Whole (b : List ℕ) : Type 0 where
  pub few_inputs : inputs b ≤ 16
  pub few_outputs : outputs b ≤ 16
  pub size : 12 + 4 * (inputs b + outputs b) ≤ length b
  pub some_output : 0 < outputs b

-- a buffer whose number is 0 is whole
pub whole_buffer : (b : List ℕ) → is_given (number_for b) ≡ true → Whole b
unfolding number_for
whole_buffer b = go (ltb (length b) 12) (ltb 16 (inputs b)) (ltb 16 (outputs b)) (ltb (length b) (12 + 4 * (inputs b + outputs b))) (eqb (outputs b) 0) refl refl refl refl
  where
    positive : (n : ℕ) → (n ≡ 0 → ⊥) → 0 < n
    positive n h = omega (arith, h)

    go : (short inner outer cut none : Bool) → ltb 16 (inputs b) ≡ inner → ltb 16 (outputs b) ≡ outer → ltb (length b) (12 + 4 * (inputs b + outputs b)) ≡ cut → eqb (outputs b) 0 ≡ none
        → is_given (cond short Short (cond (inner || outer) TooMany (cond cut Short (cond none NoOutputs Given)))) ≡ true → Whole b
    go false false false false false p q r s e =
        record { few_inputs = ltb-false 16 (inputs b) p; few_outputs = ltb-false 16 (outputs b) q; size = ltb-false (length b) _ r; some_output = positive (outputs b) (eqb-false (outputs b) 0 s) }
    go true inner outer cut none p q r s e = absurd (false≢true e)
    go false true outer cut none p q r s e = absurd (false≢true e)
    go false false true cut none p q r s e = absurd (false≢true e)
    go false false false true none p q r s e = absurd (false≢true e)
    go false false false false true p q r s e = absurd (false≢true e)

-- one that has a call's counts, and is long enough for them, has the number 0
pub given_by : (i o : ℕ) (b : List ℕ) → inputs b ≡ i → outputs b ≡ o → (ltb 16 i || ltb 16 o) ≡ false → eqb o 0 ≡ false → 12 + 4 * (i + o) ≤ length b
    → is_given (number_for b) ≡ true
unfolding number_for
given_by i o b e f few some h = rw (le-ltb (length b) 12 (omega arith), e, f, few, le-ltb (length b) (12 + 4 * (i + o)) h, some)

-- the number itself, from the test that the code makes of it
pub given_number : (n : Number) → is_given n ≡ true → n ≡ Given
given_number Given e = refl
given_number Short e = absurd (false≢true e)
given_number NoOutputs e = absurd (false≢true e)
given_number TooMany e = absurd (false≢true e)

zero_given : (n : Number) → number_of n ≡ 0 → is_given n ≡ true
zero_given Given e = refl
zero_given Short e = absurd (omega (arith, e))
zero_given NoOutputs e = absurd (omega (arith, e))
zero_given TooMany e = absurd (omega (arith, e))

-- a buffer that asks for a call has its token and counts
pub asked : (t i o : ℕ) (b : List ℕ) → asks t i o b ≡ true → (token b ≡ t) × (inputs b ≡ i) × (outputs b ≡ o)
unfolding asks
asked t i o b e =
    let f = and_right (eqb (token b) t) (eqb (inputs b) i && eqb (outputs b) o) e in
    (eqb-true (token b) t (and_left _ (eqb (inputs b) i && eqb (outputs b) o) e), eqb-true (inputs b) i (and_left _ (eqb (outputs b) o) f), eqb-true (outputs b) o (and_right (eqb (inputs b) i) _ f))

pub asks_by : (t i o : ℕ) (b : List ℕ) → token b ≡ t → inputs b ≡ i → outputs b ≡ o → asks t i o b ≡ true
unfolding asks
asks_by t i o b e f g = rw (eq-eqb _ _ e, eq-eqb _ _ f, eq-eqb _ _ g)

-- and asks for no other
pub asks_else : (t u i o : ℕ) (b : List ℕ) → token b ≡ t → eqb t u ≡ false → asks u i o b ≡ false
unfolding asks
asks_else t u i o b e f = rw (e, f)

-- ---- what a call leaves

module _ (c : Found) where
  -- without a status everything stays
  pub unchanged : is_given (number_for c.args) ≡ false → call_of c ≡ leaves (number_for c.args) c.args c.memory c.registration c.reading
  unfolding call_of
  unchanged e = rw e

  -- with one, the status word is stored, and memory is as the call's own work leaves it
  pub carried_out : is_given (number_for c.args) ≡ true
      → call_of c ≡ leaves Given (sets c.args (status_at c.args) (word_bytes (status_word (outcome c).status ∷ (outcome c).more))) (outcome c).memory (outcome c).registration (outcome c).reading
  unfolding call_of
  carried_out e = rw e

  pub number_is : (call_of c).number ≡ number_for c.args
  number_is = decide (is_given (number_for c.args))
      (λ e. ap (λ (x : Left). x.number) (carried_out e) ∙ sym (given_number (number_for c.args) e))
      (λ e. ap (λ (x : Left). x.number) (unchanged e))

  -- a status is in the buffer exactly where the number of the call gives one
  pub has_given : HasStatus (call_of c) → is_given (number_for c.args) ≡ true
  has_given h = zero_given (number_for c.args) (ap number_of (sym number_is) ∙ h)

  pub has_status : is_given (number_for c.args) ≡ true → HasStatus (call_of c)
  has_status e = ap (λ (x : Left). number_of x.number) (carried_out e)

  -- ---- a call's own work, by its token

  pub outcome_ways : (P : Outcome → Type 0) → (is_nodes c.args ≡ true → P (nodes_outcome c)) → (is_indices c.args ≡ true → P (indices_outcome c))
      → (is_dump c.args ≡ true → P (dump_outcome c)) → (is_properties c.args ≡ true → P (properties_outcome c)) → P (refusal c) → P (outcome c)
  unfolding outcome
  outcome_ways P f g d q h =
      choose (is_nodes c.args) P f (λ _. choose (is_indices c.args) P g (λ _. choose (is_dump c.args) P d (λ _. choose (is_properties c.args) P q (λ _. h))))

  pub nodes_outcome_lem : is_nodes c.args ≡ true → outcome c ≡ nodes_outcome c
  unfolding outcome
  nodes_outcome_lem e = rw e

  pub indices_outcome_lem : is_indices c.args ≡ true → outcome c ≡ indices_outcome c
  unfolding outcome
  indices_outcome_lem e = let other = asks_else 2 1 2 1 c.args (asked 2 5 2 c.args e).0 refl in rw (other, e)

  pub dump_outcome_lem : is_dump c.args ≡ true → outcome c ≡ dump_outcome c
  unfolding outcome
  dump_outcome_lem e =
      let token_is = (asked 3 3 1 c.args e).0 in
      let nodes_not = asks_else 3 1 2 1 c.args token_is refl in
      let indices_not = asks_else 3 2 5 2 c.args token_is refl in
      rw (nodes_not, indices_not, e)

  pub properties_outcome_lem : is_properties c.args ≡ true → outcome c ≡ properties_outcome c
  unfolding outcome
  properties_outcome_lem e =
      let token_is = (asked 4 2 1 c.args e).0 in
      let nodes_not = asks_else 4 1 2 1 c.args token_is refl in
      let indices_not = asks_else 4 2 5 2 c.args token_is refl in
      let dump_not = asks_else 4 3 3 1 c.args token_is refl in
      rw (nodes_not, indices_not, dump_not, e)

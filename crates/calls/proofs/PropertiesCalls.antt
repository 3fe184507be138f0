-- Laws of a call: what an answered update-properties call leaves, and when it is answered.
use mathlib.Core.Path.{◌≡◌, refl, ap, ◌∙◌, sym}
use mathlib.Core.Bool.{Bool, true, false, cond, false≢true}
use mathlib.Core.List.{List}
use Prim.Native.Nat.{ℕ, ◌+◌, ◌%◌, ◌≤◌}
use native.Mathlib.Omega.{arith}
use lib.ListN.{length}
use Rattle.std.specs.Prelude.{Ok, Err}
use Rattle.words.specs.Numbers.{be32}
use Rattle.words.proofs.Choice.{and_left, and_right}
use Rattle.journal.specs.Journal.{well_formed}
use Rattle.journal.specs.Scope.{valid}
use Rattle.property_area.specs.Area.{written}
use Rattle.properties.specs.declared.following.Refusal.TheVariants as refusal
use Rattle.properties.specs.Changes.{is_due, offset_or}
use Rattle.properties.specs.Answer.{carries, handed, outcome_of, area_after}
use Rattle.calls.specs.declared.status.Status.{Status}
use Rattle.calls.specs.declared.status.Status.TheVariants.{Done, Again, Parameter}
use Rattle.calls.specs.Status.{is_given, is_answer}
use Rattle.calls.specs.UpdateNodes.{area_at, with_area, placed}
use Rattle.calls.specs.UpdateProperties.{status_for, properties_status, properties_memory}
use Rattle.calls.specs.Buffer.{token, input, status_at, number_for, is_properties, Outcome, properties_outcome, outcome, Found, call_of, answered}
use Rattle.calls.proofs.Ladder.{ladder, ladder_passed, answer_either}
use Rattle.calls.proofs.Heads.{asked, carried_out, outcome_ways, properties_outcome_lem}
use Rattle.calls.proofs.Areas.{placed_inside, placed_aligned, well_placed}
use Rattle.calls.proofs.Calls.{status_word_lem, answered_by, word_either}

-- ---- the checks

-- what the area decides is the ladder's lower part: what it carries is one test
area_ladder : (w r more : Bool) → status_for (cond w (cond r (Ok more) (Err refusal.Carried)) (Err refusal.Malformed)) ≡ ladder true true w r true more
area_ladder false r more = refl
area_ladder true false more = refl
area_ladder true true false = refl
area_ladder true true true = refl

module _ (m : List ℕ) (a s : ℕ) (j : List ℕ) where
  abbrev area : List ℕ
  area = area_at m a

  -- something is due after this call
  abbrev more : Bool
  more = is_due (handed area j).due

  pub status_ladder : properties_status m a s j ≡ ladder (placed m a) (valid s) (well_formed j) (carries area j) true more
  unfolding properties_status outcome_of
  status_ladder = ap (λ (x : Status). cond (placed m a) (cond (valid s) x Parameter) Parameter) (area_ladder (well_formed j) (carries area j) more)

  -- all checks are passed
  pub record Passed : Type 0 where
    pub aligned : a % 4096 ≡ 0
    pub inside : a + 4096 ≤ length m
    pub scoped : valid s ≡ true
    pub formed : well_formed j ≡ true
    pub known : carries (area_at m a) j ≡ true

  -- a status of 0 or 1 tells so
  pub passed_is : is_answer (properties_status m a s j) ≡ true → Passed
  passed_is h =
      let t = ladder_passed (placed m a) (valid s) (well_formed j) (carries area j) true more (sym (ap is_answer status_ladder) ∙ h) in
      record { aligned = placed_aligned m a t.0; inside = placed_inside m a t.0; scoped = t.1; formed = t.2; known = t.3 }

  module _ (p : Passed) where
    here : placed m a ≡ true
    here = well_placed m a p.aligned p.inside

    pub properties_status_lem : properties_status m a s j ≡ cond more Again Done
    properties_status_lem = status_ladder ∙ rw (here, p.scoped, p.formed, p.known)

    pub properties_answers : is_answer (properties_status m a s j) ≡ true
    properties_answers = ap is_answer properties_status_lem ∙ answer_either more

    pub properties_memory_lem : properties_memory m a s j ≡ with_area m a (written area (be32 area 0) (offset_or 0 (handed area j).due) (handed area j).pieces)
    unfolding properties_memory area_after
    properties_memory_lem = rw (here, p.scoped, p.formed, p.known)

-- ---- the call

module _ (c : Found) where
  abbrev b : List ℕ
  b = c.args

  abbrev m : List ℕ
  m = c.memory

  abbrev j : List ℕ
  j = c.journal

  abbrev at : ℕ
  at = input b 0

  abbrev scope : ℕ
  scope = input b 1

  -- what an answered update-properties call leaves
  pub record Answered : Type 0 where
    pub passed : Passed m at scope j
    pub memory : let x = area_at m at in let h = handed x j in (call_of c).memory ≡ with_area m at (written x (be32 x 0) (offset_or 0 h.due) h.pieces)
    pub status : be32 (call_of c).args (status_at b) ≡ cond (is_due (handed (area_at m at) j).due) 1 0

  -- an answered call with its token has its counts
  properties_only : token b ≡ 4 → is_answer (outcome c).status ≡ true → is_properties b ≡ true
  properties_only n = outcome_ways c (λ (o : Outcome). is_answer o.status ≡ true → is_properties b ≡ true)
      (λ e _. absurd (omega (arith, n, asked 1 2 1 b e))) (λ e _. absurd (omega (arith, n, asked 2 5 2 b e))) (λ e _. absurd (omega (arith, n, asked 3 3 1 b e))) (λ e _. e)
      (λ h. absurd (false≢true h))

  pub answered_is : token b ≡ 4 → answered b (call_of c) ≡ true → Answered
  unfolding properties_outcome
  answered_is n h =
      let both = sym (answered_by c) ∙ h in
      let given = and_left _ _ both in
      let good = and_right (is_given (number_for b)) _ both in
      let work = properties_outcome_lem c (properties_only n good) in
      let passed : Passed m at scope j = passed_is m at scope j (rw work at good) in
      record {
        passed = passed;
        memory = rw (carried_out c given, work) (properties_memory_lem m at scope j passed);
        status = status_word_lem c given ∙ rw (work, properties_status_lem m at scope j passed) (word_either (is_due (handed (area_at m at) j).due));
      }

  pub will_answer : is_given (number_for b) ≡ true → is_properties b ≡ true → Passed m at scope j → answered b (call_of c) ≡ true
  unfolding properties_outcome
  will_answer g n p = answered_by c ∙ rw (g, properties_outcome_lem c n) (properties_answers m at scope j p)

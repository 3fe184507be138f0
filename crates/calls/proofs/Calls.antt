-- Laws of a call: when it is answered, and what an answered update-nodes call leaves.
use mathlib.Core.Path.{◌≡◌, refl, ap, ◌∙◌, sym}
use mathlib.Core.Bool.{Bool, true, false, cond, ◌&&◌, false≢true}
use mathlib.Core.List.{List, ◌∷◌}
use Prim.Native.Nat.{ℕ, ◌+◌, ◌%◌, ◌≤◌}
use native.Mathlib.Omega.{arith}
use lib.Dec.{leb}
use lib.ListN.{length}
use lib.Seq.{sets, length-sets}
use Rattle.words.specs.Numbers.{be, be32, be_bytes, word_bytes}
use Rattle.words.proofs.Numbers.{be_same, length_be_bytes}
use Rattle.words.proofs.Stores.{sets_before, sets_append, be_stored}
use Rattle.journal.specs.declared.operation.Operation.{Operation}
use Rattle.journal.specs.Journal.{well_formed}
use Rattle.journal.specs.Scope.{valid, units_of}
use Rattle.journal.specs.Reportable.{reportable}
use Rattle.words.proofs.Choice.{decide, and_left, and_right}
use Rattle.node_area.specs.Head.{unit_in, is_reserved}
use Rattle.nodes.specs.Run.{remains}
use Rattle.nodes.specs.Area.{written}
use Rattle.calls.specs.declared.status.Status.{Status}
use Rattle.calls.specs.declared.status.Status.TheVariants.{Done, Again, Malformed, Parameter, Changed, AlreadyRegistered, DumpActive}
use Rattle.calls.specs.Status.{is_given, is_answer, status_word}
use Rattle.calls.specs.UpdateNodes.{area_at, with_area, placed, good_state, area_status, area_after, asks_for, nodes_status, nodes_memory}
use Rattle.calls.specs.Buffer.{token, input, status_at, number_for, is_nodes, Outcome, nodes_outcome, outcome, Found, Left, call_of, answered}
use Rattle.calls.proofs.Ladder.{ladder_passed, answer_either}
use Rattle.calls.proofs.Heads.{whole_buffer, asked, unchanged, carried_out, outcome_ways, nodes_outcome_lem}
use Rattle.calls.proofs.Areas.{placed_inside, placed_aligned, well_placed}

-- ---- update-nodes

-- the list that a call hands out, and the state that it finds
abbrev pub listed : ℕ → List ℕ → List ℕ → List Operation
listed s area j = reportable (asks_for s area) j

abbrev pub state : List ℕ → ℕ → ℕ
state m a = be32 (area_at m a) 0

module _ (m : List ℕ) (a s : ℕ) (j : List ℕ) where
  -- all checks are passed
  pub record Passed : Type 0 where
    pub aligned : a % 4096 ≡ 0
    pub inside : a + 4096 ≤ length m
    pub scoped : valid s ≡ true
    pub formed : well_formed j ≡ true
    pub clear : is_reserved s (area_at m a) ≡ true
    pub begun : good_state (asks_for s (area_at m a)) j (area_at m a) ≡ true

  -- a status of 0 or 1 tells so
  pub passed_is : is_answer (nodes_status m a s j) ≡ true → Passed
  unfolding nodes_status area_status
  passed_is h =
      let t = ladder_passed (placed m a) (valid s) (well_formed j) (is_reserved s (area_at m a)) (good_state (asks_for s (area_at m a)) j (area_at m a)) (remains (listed s (area_at m a) j) (state m a)) h in
      record { aligned = placed_aligned m a t.0; inside = placed_inside m a t.0; scoped = t.1; formed = t.2; clear = t.3; begun = t.4 }

  module _ (p : Passed) where
    here : placed m a ≡ true
    here = well_placed m a p.aligned p.inside

    area_status_lem : area_status s (asks_for s (area_at m a)) j (area_at m a) ≡ cond (remains (listed s (area_at m a) j) (state m a)) Again Done
    unfolding area_status
    area_status_lem = rw (p.formed, p.clear, p.begun)

    pub nodes_status_lem : nodes_status m a s j ≡ cond (remains (listed s (area_at m a) j) (state m a)) Again Done
    unfolding nodes_status
    nodes_status_lem = rw (here, p.scoped) area_status_lem

    pub nodes_answers : is_answer (nodes_status m a s j) ≡ true
    nodes_answers = ap is_answer nodes_status_lem ∙ answer_either (remains (listed s (area_at m a) j) (state m a))

    pub nodes_memory_lem : nodes_memory m a s j ≡ with_area m a (written (units_of s (unit_in (area_at m a))) (area_at m a) (listed s (area_at m a) j) (state m a))
    unfolding nodes_memory area_after
    nodes_memory_lem = rw (here, p.scoped, area_status_lem, answer_either (remains (listed s (area_at m a) j) (state m a)))

-- ---- the argument buffer

word_fits : (x : Status) → status_word x % 0x1_0000_0000 ≡ status_word x
word_fits Done = refl
word_fits Again = refl
word_fits Malformed = refl
word_fits Parameter = refl
word_fits Changed = refl
word_fits AlreadyRegistered = refl
word_fits DumpActive = refl

-- the status word of an answer
pub word_either : (t : Bool) → status_word (cond t Again Done) ≡ cond t 1 0
word_either true = refl
word_either false = refl

-- the first of words that were stored reads back
first_stored : (l : List ℕ) (at w : ℕ) (ws : List ℕ) → at + 4 ≤ length l → be 4 (sets l at (word_bytes (w ∷ ws))) at ≡ w % 0x1_0000_0000
unfolding word_bytes
first_stored l at w ws h =
    ap (λ (x : List ℕ). be 4 x at) (sets_append l at (be_bytes 4 w) (word_bytes ws))
    ∙ be_same _ (sets l at (be_bytes 4 w)) 4 at at (λ n g. sets_before (word_bytes ws) (sets l at (be_bytes 4 w)) (at + length (be_bytes 4 w)) (at + n) (omega (arith, length_be_bytes 4 w)))
    ∙ be_stored l 4 w at h

-- and so does the second
pub second_stored : (l : List ℕ) (at w v : ℕ) (ws : List ℕ) → at + 8 ≤ length l → be 4 (sets l at (word_bytes (w ∷ v ∷ ws))) (at + 4) ≡ v % 0x1_0000_0000
unfolding word_bytes
second_stored l at w v ws h =
    ap (λ (x : List ℕ). be 4 x (at + 4)) (sets_append l at (be_bytes 4 w) (word_bytes (v ∷ ws)) ∙ rw (length_be_bytes 4 w))
    ∙ first_stored (sets l at (be_bytes 4 w)) (at + 4) v ws (omega (arith, length-sets l at (be_bytes 4 w)))

-- where a status is given, its word is inside the buffer
pub status_inside : (b : List ℕ) → is_given (number_for b) ≡ true → status_at b + 4 ≤ length b
status_inside b e = let w = whole_buffer b e in omega arith

module _ (c : Found) where
  abbrev b : List ℕ
  b = c.args

  abbrev m : List ℕ
  m = c.memory

  abbrev j : List ℕ
  j = c.journal

  -- the status word that a call leaves
  pub status_word_lem : is_given (number_for b) ≡ true → be32 (call_of c).args (status_at b) ≡ status_word (outcome c).status
  status_word_lem e = let x = outcome c in
      rw (carried_out c e) (first_stored b (status_at b) (status_word x.status) x.more (status_inside b e) ∙ word_fits x.status)

  -- a call is answered where a status is given and is 0 or 1
  pub answered_by : answered b (call_of c) ≡ (is_given (number_for b) && is_answer (outcome c).status)
  unfolding answered
  answered_by = decide (is_given (number_for b))
      (λ e. rw (ap (λ (x : Left). x.number) (carried_out c e), e) (ap (λ (n : ℕ). leb n 1) (status_word_lem e)))
      (λ e. rw (unchanged c e, e))

  abbrev at : ℕ
  at = input b 0

  abbrev scope : ℕ
  scope = input b 1

  -- what an answered update-nodes call leaves
  pub record Answered : Type 0 where
    pub passed : Passed m at scope j
    pub memory : (call_of c).memory ≡ with_area m at (written (units_of scope (unit_in (area_at m at))) (area_at m at) (listed scope (area_at m at) j) (state m at))
    pub status : be32 (call_of c).args (status_at b) ≡ cond (remains (listed scope (area_at m at) j) (state m at)) 1 0

  -- an answered call with its token has its counts
  nodes_only : token b ≡ 1 → is_answer (outcome c).status ≡ true → is_nodes b ≡ true
  nodes_only n = outcome_ways c (λ (o : Outcome). is_answer o.status ≡ true → is_nodes b ≡ true)
      (λ e _. e) (λ e _. absurd (omega (arith, n, asked 2 5 2 b e))) (λ e _. absurd (omega (arith, n, asked 3 3 1 b e))) (λ e _. absurd (omega (arith, n, asked 4 2 1 b e)))
      (λ h. absurd (false≢true h))

  pub answered_is : token b ≡ 1 → answered b (call_of c) ≡ true → Answered
  unfolding nodes_outcome
  answered_is n h =
      let both = sym answered_by ∙ h in
      let given = and_left _ _ both in
      let good = and_right (is_given (number_for b)) _ both in
      let work = nodes_outcome_lem c (nodes_only n good) in
      let passed : Passed m at scope j = passed_is m at scope j (rw work at good) in
      record {
        passed = passed;
        memory = rw (carried_out c given, work) (nodes_memory_lem m at scope j passed);
        status = status_word_lem given ∙ rw (work, nodes_status_lem m at scope j passed) (word_either (remains (listed scope (area_at m at) j) (state m at)));
      }

  pub will_answer : is_given (number_for b) ≡ true → is_nodes b ≡ true → Passed m at scope j → answered b (call_of c) ≡ true
  unfolding nodes_outcome
  will_answer g n p = answered_by ∙ rw (g, nodes_outcome_lem c n) (nodes_answers m at scope j p)

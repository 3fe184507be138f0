-- Demand 1: what no call changes.
use mathlib.Core.Path.{◌≡◌, refl, sym, ap, ◌∙◌}
use mathlib.Core.Bool.{Bool, true, false, cond, ◌&&◌, false≢true, true≢false}
use mathlib.Core.List.{List, [], ◌∷◌}
use mathlib.Core.Logic.{inr, ⊎_elim}
use Prim.Native.Nat.{ℕ, ◌+◌, ◌*◌, ◌<◌, ◌≤◌}
use native.Mathlib.Omega.{arith}
use lib.ListN.{length, get_or}
use lib.Seq.{sets, length-sets}
use Rattle.std.specs.Prelude.{Ok, Err, is_ok}
use Rattle.words.specs.Claims.Exactly.{Outside}
use Rattle.words.specs.Numbers.{be32, word_bytes}
use Rattle.words.proofs.Choice.{decide, and_left, and_right}
use Rattle.words.proofs.Stores.{sets_before, sets_after, length_word_bytes}
use Rattle.dump.specs.declared.registration.Registration.{Registration}
use Rattle.journal.specs.Journal.{well_formed}
use Rattle.journal.specs.Reportable.{reportable}
use Rattle.node_area.specs.Head.{is_reserved}
use Rattle.nodes.specs.Run.{remains}
use Rattle.journal.specs.Scope.{valid, Selection}
use Rattle.calls.specs.declared.status.Number.TheVariants.{Given}
use Rattle.calls.specs.Status.{is_given, is_answer, status_word}
use Rattle.calls.specs.UpdateNodes.{area_at, with_area, placed, good_state, area_status, area_after, asks_for, nodes_status, nodes_memory}
use Rattle.properties.specs.Answer.{carries}
use Rattle.properties.specs.Answer as properties
use Rattle.calls.specs.UpdateProperties.{properties_status, properties_memory}
use Rattle.calls.specs.Buffer.{outputs, input, status_at, number_for, is_nodes, is_indices, is_dump, is_properties, request_of}
use Rattle.calls.specs.Buffer.{Outcome, nodes_outcome, indices_outcome, dump_outcome, properties_outcome, refusal, outcome, Found, leaves, Left, call_of}
use Rattle.calls.specs.Claims.Terms.{minus, HasStatus, Refused, Asks, naming}
use Rattle.calls.specs.Claims.Demands.{Confined, Demand1}
use Rattle.calls.proofs.Areas.{placed_inside, placed_aligned, state_within, nodes_checked}
use Rattle.calls.proofs.Ladder.{ladder_passed}
use Rattle.calls.proofs.Calls.{status_word_lem}
use Rattle.calls.proofs.PropertiesCalls.{properties_answers}
use Rattle.calls.proofs.PropertyAnswers as property-answers
use Rattle.calls.proofs.Heads.{whole_buffer, asked, unchanged, carried_out, has_given, has_status, outcome_ways}
use Rattle.calls.proofs.ReadingRecords.{recorded}
use Rattle.calls.proofs.Memory.{part_length, part_kept, part_before, part_behind, part_same, written_length}
use lib.Dec.{leb, eqb}
use borrow.Author.Tests.{leb-true, le-leb}
use Rattle.dump.specs.declared.registration.Refusal.TheVariants as refusal
use Rattle.dump.specs.Registration.{Verdict, no_registration, registered, structure_at, verdict_of, registration_after}
use Rattle.calls.specs.ConfigureDump.{verdict_status, dump_status}
use Rattle.calls.specs.GetIndices.{indices_status, next_number}
use Rattle.calls.proofs.Requests.{indices_refused, indices_outside, indices_length}

-- ---- the memory that a call leaves whose area is checked by address and scope

module _ (m : List ℕ) (address scope : ℕ) (next : List ℕ) where
  abbrev left : List ℕ
  left = cond (placed m address && valid scope) (with_area m address next) m

  -- the ways through the checks of address and scope
  ways : (P : List ℕ → Type 0) → (placed m address ≡ true → valid scope ≡ true → P (with_area m address next)) → P m → P left
  ways P f g = decide (placed m address) (λ p. decide (valid scope) (λ v. rw (p, v) (f p v)) (λ v. rw (p, v) g)) (λ p. rw p g)

  left_same : (placed m address ≡ true → valid scope ≡ true → next ≡ area_at m address) → left ≡ m
  left_same same = ways (λ (l : List ℕ). l ≡ m) (λ p v. ap (with_area m address) (same p v) ∙ part_same m address 4096) refl

  module _ (sized : length (area_at m address) ≡ 4096 → length next ≡ 4096) where
    module _ (p : placed m address ≡ true) where
      inside : address + 4096 ≤ length m
      inside = placed_inside m address p

      size : length next ≡ 4096
      size = sized (part_length m address 4096 inside)

    left_length : length left ≡ length m
    left_length = ways (λ (l : List ℕ). length l ≡ length m) (λ p v. part_kept m address 4096 (inside p) next (size p)) refl

    left_outside : (k : ℕ) → Outside address 4096 k → get_or left k 0 ≡ get_or m k 0
    left_outside k e = ways (λ (l : List ℕ). get_or l k 0 ≡ get_or m k 0)
        (λ p v. ⊎_elim (part_before m address 4096 (inside p) next (size p) k) (part_behind m address 4096 (inside p) next (size p) k) e) refl

-- ---- the memory that update-nodes leaves

-- an area that is answered had a good state
answers_state : (scope : ℕ) (selection : Selection) (j area : List ℕ) → is_answer (area_status scope selection j area) ≡ true → good_state selection j area ≡ true
unfolding area_status
answers_state scope selection j area h = (ladder_passed true true (well_formed j) (is_reserved scope area) (good_state selection j area) (remains (reportable selection j) (be32 area 0)) h).4

after_length : (scope : ℕ) (selection : Selection) (j area : List ℕ) → length area ≡ 4096 → length (area_after scope selection j area) ≡ 4096
unfolding area_after
after_length scope selection j area size = decide (is_answer (area_status scope selection j area))
    (λ e. rw e (written_length selection.units area (reportable selection j) (be32 area 0) size (state_within selection j area (answers_state scope selection j area e))))
    (λ e. rw e size)

module _ (m : List ℕ) (address scope : ℕ) (j : List ℕ) where
  abbrev area : List ℕ
  area = area_at m address

  abbrev next : List ℕ
  next = area_after scope (asks_for scope area) j area

  after_none : is_answer (area_status scope (asks_for scope area) j area) ≡ false → next ≡ area
  unfolding area_after
  after_none e = rw e

  nodes_refused : is_answer (nodes_status m address scope j) ≡ false → nodes_memory m address scope j ≡ m
  unfolding nodes_memory
  nodes_refused e = left_same m address scope next (λ p v. after_none (sym (ap is_answer (nodes_checked m address scope j p v)) ∙ e))

  nodes_length : length (nodes_memory m address scope j) ≡ length m
  unfolding nodes_memory
  nodes_length = left_length m address scope next (after_length scope (asks_for scope area) j area)

  nodes_outside : (k : ℕ) → Outside address 4096 k → get_or (nodes_memory m address scope j) k 0 ≡ get_or m k 0
  unfolding nodes_memory
  nodes_outside = left_outside m address scope next (after_length scope (asks_for scope area) j area)

  -- ---- the memory that update-properties leaves

  abbrev told : List ℕ
  told = properties.area_after area j

  -- past the checks of address and scope, an area that is refused stays
  told_none : placed m address ≡ true → valid scope ≡ true → is_answer (properties_status m address scope j) ≡ false → told ≡ area
  unfolding properties.area_after
  told_none p v e = decide (well_formed j && carries area j) (λ t. absurd (true≢false (sym (answers t) ∙ e))) (λ t. rw t)
    where
      answers : (well_formed j && carries area j) ≡ true → is_answer (properties_status m address scope j) ≡ true
      answers t = properties_answers m address scope j
          (record { aligned = placed_aligned m address p; inside = placed_inside m address p; scoped = v; formed = and_left _ _ t; known = and_right (well_formed j) _ t })

  properties_refused : is_answer (properties_status m address scope j) ≡ false → properties_memory m address scope j ≡ m
  unfolding properties_memory
  properties_refused e = left_same m address scope told (λ p v. told_none p v e)

  properties_length : length (properties_memory m address scope j) ≡ length m
  unfolding properties_memory
  properties_length = left_length m address scope told (property-answers.after_length area j)

  properties_outside : (k : ℕ) → Outside address 4096 k → get_or (properties_memory m address scope j) k 0 ≡ get_or m k 0
  unfolding properties_memory
  properties_outside = left_outside m address scope told (property-answers.after_length area j)

-- ---- a call's own work

-- What a call's own work keeps: without an answer nothing else than the status changes, and no byte outside its outputs and its area does.
record Proper (c : Found) (o : Outcome) : Type 0 where
  outputs_hold : length o.more < outputs c.args
  refused_more : is_answer o.status ≡ false → o.more ≡ []
  refused_memory : is_answer o.status ≡ false → o.memory ≡ c.memory
  refused_registration : is_answer o.status ≡ false → o.registration ≡ c.registration
  kept : is_answer o.status ≡ false → (Asks 2 5 2 c.args → status_word o.status ≡ minus 4 → ⊥) → o.reading ≡ c.reading
  cleared : Asks 2 5 2 c.args → status_word o.status ≡ minus 4 → o.reading ≡ naming 0 0 1 0
  other : (Asks 2 5 2 c.args → ⊥) → o.reading ≡ c.reading
  beside : (k : ℕ) → (Asks 1 2 1 c.args → Outside (be32 c.args 12) 4096 k) → (Asks 2 5 2 c.args → Outside (be32 c.args 20) (be32 c.args 24) k)
      → (Asks 4 2 1 c.args → Outside (be32 c.args 12) 4096 k)
      → get_or o.memory k 0 ≡ get_or c.memory k 0
  size : length o.memory ≡ length c.memory

module _ (c : Found) where
  abbrev b : List ℕ
  b = c.args

  abbrev m : List ℕ
  m = c.memory

  abbrev j : List ℕ
  j = c.journal

  abbrev i : List ℕ
  i = c.inventory

  abbrev r : Registration
  r = c.registration

  nodes_proper : is_nodes b ≡ true → Proper c (nodes_outcome c)
  unfolding nodes_outcome
  nodes_proper e =
      record {
        outputs_hold = omega (arith, asked 1 2 1 b e);
        refused_more = λ _. refl;
        refused_memory = nodes_refused m (input b 0) (input b 1) j;
        refused_registration = λ _. refl;
        kept = λ _ _. refl;
        cleared = λ h _. absurd (omega (arith, h, asked 1 2 1 b e));
        other = λ _. refl;
        beside = λ k f g h. nodes_outside m (input b 0) (input b 1) j k (f (asked 1 2 1 b e));
        size = nodes_length m (input b 0) (input b 1) j;
      }

  one_more : (t : Bool) (n : ℕ) → length (cond t (n ∷ []) []) ≤ 1
  one_more true n = omega arith
  one_more false n = omega arith

  indices_proper : is_indices b ≡ true → Proper c (indices_outcome c)
  unfolding indices_outcome
  indices_proper e =
      let q = request_of b in
      let s = indices_status m i c.edition c.reading q in
      let told = recorded q (next_number i q) c.edition c.reading s in
      record {
        outputs_hold = omega (arith, asked 2 5 2 b e, one_more (is_answer s) (next_number i q));
        refused_more = λ h. rw h;
        refused_memory = indices_refused m i c.edition c.reading q;
        refused_registration = λ _. refl;
        kept = λ h g. told.kept (λ l. true≢false (sym (le-leb _ 1 l) ∙ h)) (g (asked 2 5 2 b e));
        cleared = λ _ h. told.cleared (inr h);
        other = λ h. absurd (h (asked 2 5 2 b e));
        beside = λ k f g h. indices_outside m i c.edition c.reading q k (g (asked 2 5 2 b e));
        size = indices_length m i c.edition c.reading q;
      }

  -- a command that is refused keeps the registration
  dump_kept : (command address len : ℕ) → is_answer (dump_status m command address len r) ≡ false → registration_after m command address len r ≡ r
  unfolding dump_status registration_after
  dump_kept command address len h = go (verdict_of m command address len r.phase) h
    where
      go : (v : Verdict) → is_answer (verdict_status v) ≡ false → cond (is_ok v) (cond (eqb command 1) (registered (structure_at m address len)) no_registration) r ≡ r
      go (Ok _) e = absurd (false≢true (sym e))
      go (Err refusal.Parameter) e = refl
      go (Err refusal.AlreadyRegistered) e = refl
      go (Err refusal.DumpActive) e = refl

  dump_proper : is_dump b ≡ true → Proper c (dump_outcome c)
  unfolding dump_outcome
  dump_proper e =
      record {
        outputs_hold = omega (arith, asked 3 3 1 b e);
        refused_more = λ _. refl;
        refused_memory = λ _. refl;
        refused_registration = dump_kept (input b 0) (input b 1) (input b 2);
        kept = λ _ _. refl;
        cleared = λ h _. absurd (omega (arith, h, asked 3 3 1 b e));
        other = λ _. refl;
        beside = λ _ _ _ _. refl;
        size = refl;
      }

  properties_proper : is_properties b ≡ true → Proper c (properties_outcome c)
  unfolding properties_outcome
  properties_proper e =
      record {
        outputs_hold = omega (arith, asked 4 2 1 b e);
        refused_more = λ _. refl;
        refused_memory = properties_refused m (input b 0) (input b 1) j;
        refused_registration = λ _. refl;
        kept = λ _ _. refl;
        cleared = λ h _. absurd (omega (arith, h, asked 4 2 1 b e));
        other = λ _. refl;
        beside = λ k f g h. properties_outside m (input b 0) (input b 1) j k (h (asked 4 2 1 b e));
        size = properties_length m (input b 0) (input b 1) j;
      }

  refusal_proper : 0 < outputs b → Proper c (refusal c)
  refusal_proper h =
      record {
        outputs_hold = h;
        refused_more = λ _. refl;
        refused_memory = λ _. refl;
        refused_registration = λ _. refl;
        kept = λ _ _. refl;
        cleared = λ _ g. absurd (omega (arith, g));
        other = λ _. refl;
        beside = λ _ _ _ _. refl;
        size = refl;
      }

  abbrev o : Outcome
  o = outcome c

  proper : 0 < outputs b → Proper c o
  proper h = outcome_ways c (Proper c) nodes_proper indices_proper dump_proper properties_proper (refusal_proper h)

  -- ---- the call

  abbrev stored : List ℕ
  stored = word_bytes (status_word o.status ∷ o.more)

  -- the ways of a call: nothing changes, or the outputs are stored and the rest is as the call's own work leaves it
  call_ways : (P : Left → Type 0) → (is_given (number_for b) ≡ false → P (leaves (number_for b) b m r c.reading))
      → (is_given (number_for b) ≡ true → Proper c o → P (leaves Given (sets b (status_at b) stored) o.memory o.registration o.reading)) → P (call_of c)
  call_ways P f g = decide (is_given (number_for b))
      (λ e. rw (carried_out c e) (g e (proper (whole_buffer b e).some_output)))
      (λ e. rw (unchanged c e) (f e))

  -- a refused call's own work is refused
  refused_own : Refused b (call_of c) → is_given (number_for b) ≡ true → is_answer o.status ≡ false
  refused_own h e = decide (is_answer o.status)
      (λ a. absurd (h (has_status c e) (leb-true _ 1 (ap (λ (n : ℕ). leb n 1) (status_word_lem c e) ∙ a)))) (λ a. a)

  -- bytes outside of words that were stored
  words_outside : (ws : List ℕ) (k n : ℕ) → length ws ≤ n → Outside (status_at b) (4 * n) k → get_or (sets b (status_at b) (word_bytes ws)) k 0 ≡ get_or b k 0
  words_outside ws k n h = ⊎_elim (sets_before (word_bytes ws) b (status_at b) k) (λ g. sets_after (word_bytes ws) b (status_at b) k (omega (arith, length_word_bytes ws)))

  confined : Confined c (call_of c)
  confined =
      record {
        no_status = call_ways (λ (x : Left). (HasStatus x → ⊥) → x.args ≡ b) (λ _ _. refl) (λ _ _ h. absurd (h refl));
        refused_args = λ h k n. call_ways (λ (x : Left). get_or x.args k 0 ≡ get_or b k 0) (λ _. refl)
            (λ e p. rw (p.refused_more (refused_own h e)) (words_outside (status_word o.status ∷ []) k 1 (omega arith) n));
        refused_memory = λ h. call_ways (λ (x : Left). x.memory ≡ m) (λ _. refl) (λ e p. p.refused_memory (refused_own h e));
        refused_registration = λ h. call_ways (λ (x : Left). x.registration ≡ r) (λ _. refl) (λ e p. p.refused_registration (refused_own h e));
        refused_reading = λ h n. call_ways (λ (x : Left). x.reading ≡ c.reading) (λ _. refl)
            (λ e p. p.kept (refused_own h e) (λ a f. n (has_status c e, a, status_word_lem c e ∙ f)));
        other_reading = λ h. call_ways (λ (x : Left). x.reading ≡ c.reading) (λ _. refl) (λ e p. p.other h);
        cleared_reading = λ h. call_ways (λ (x : Left). x.reading ≡ naming 0 0 1 0) (λ e. absurd (true≢false (sym (has_given c h.0) ∙ e)))
            (λ e p. p.cleared h.1 (sym (status_word_lem c e) ∙ h.2));
        outside_outputs = λ k n. call_ways (λ (x : Left). get_or x.args k 0 ≡ get_or b k 0) (λ _. refl)
            (λ e p. words_outside (status_word o.status ∷ o.more) k (outputs b) (omega (arith, p.outputs_hold)) n);
        outside_area = λ k f g h. call_ways (λ (x : Left). get_or x.memory k 0 ≡ get_or m k 0) (λ _. refl) (λ e p. p.beside k f g h);
        args_length = call_ways (λ (x : Left). length x.args ≡ length b) (λ _. refl) (λ _ _. length-sets b (status_at b) stored);
        memory_length = call_ways (λ (x : Left). length x.memory ≡ length m) (λ _. refl) (λ e p. p.size);
      }

pub demand1 : Demand1
demand1 = confined

-- Demand 3: the answered calls of a session hand out the reportable list, each operation once and in order; and no cutting of it takes fewer areas.
use mathlib.Core.Path.{◌≡◌, refl, ap, ◌∙◌, sym}
use mathlib.Core.Bool.{true, ◌||◌, or-true, true≢false}
use mathlib.Core.List.{List}
use mathlib.Core.Logic.{⊎_elim}
use Prim.Native.Nat.{ℕ, ◌+◌, ◌*◌, ◌≤◌, ◌<◌}
use native.Mathlib.Omega.{arith}
use native.Mathlib.Nat.{eq-or-lt_of_le}
use lib.Dec.{ltb, eqb}
use borrow.Author.Tests.{lt-ltb, eq-eqb}
use lib.ListN.{length, take, drop, length-take, take-append-drop}
use lib.Seq.{take_all}
use Rattle.words.specs.Numbers.{be_bytes, word_bytes}
use Rattle.words.specs.Reading.{read}
use Rattle.journal.specs.declared.operation.Operation.{Operation}
use Rattle.journal.specs.declared.scope.Units.{Units}
use Rattle.journal.specs.Journal.{well_formed}
use Rattle.journal.specs.Scope.{valid, units_of, selection_of}
use Rattle.journal.specs.Reportable.{reportable, operand_words}
use Rattle.nodes.specs.Run.{run, remains, next_state}
use Rattle.nodes.specs.Area.{written}
use Rattle.node_area.specs.Reading.{reading}
use Rattle.nodes.specs.Claims.Nodes.{Listed}
use Rattle.nodes.proofs.Runs.{RunFacts, run_facts, operand_words_append, operand_words_le, length_le_operand_words}
use Rattle.node_area.specs.Head.{head_of, carried_head, state_in, unit_in}
use Rattle.nodes.proofs.Carried.{state_of_lem, reserved_of, unit_of_lem, written_head}
use Rattle.nodes.proofs.Claims.{area_claims}
use Rattle.calls.specs.UpdateNodes.{area_at, good_state}
use Rattle.calls.specs.Buffer.{input, Found}
use Rattle.calls.specs.Claims.Session.{is_answered, Standing}
use Rattle.calls.specs.Claims.NodeSession.{address, area_before, area_then, carried_then, start, standing, Continues, Session, WellMade, reported}
use Rattle.calls.specs.Claims.Demands.{Bounded, Accounted, Ends, Demand3}
use Rattle.calls.specs.Claims.Fewest.{joined_runs, Cutting, areas_of, FewestAreas}
use Rattle.calls.proofs.Memory.{part_length, part_stored, written_length}
use Rattle.calls.proofs.Calls.{Passed, Answered, answered_is, will_answer}
use Rattle.calls.proofs.Fewest.{end_of, areas_least, stays_behind, another_area}
use Rattle.calls.proofs.Heads.{given_by, asks_by}
use Rattle.calls.proofs.Session as session

-- the words of a part of a list are no more than the list's
words_part : (k : ℕ) (os : List Operation) → operand_words (take k os) ≤ operand_words os
words_part k os = omega (arith, operand_words_append (take k os) (drop k os), ap operand_words (take-append-drop k os))

-- ---- the kind of session: sixteen bytes carry a state, and each area that does not end the list has 1,015 operand words

module _ (j : List ℕ) (s u : ℕ) (u-small : u < 0x1_0000_0000_0000_0000) (ls : Listed (reportable (selection_of s u) j)) where
  abbrev os : List Operation
  os = reportable (selection_of s u) j

  abbrev units : Units
  units = units_of s u

  abbrev Names : List ℕ → ℕ → Type 0
  Names carried k = carried ≡ carried_head units k

  -- So many areas have enough words, and in as many no cutting of the list passes the place; nor does one come to the end in fewer.
  record Fill (a k : ℕ) : Type 0 where
    words : 1015 * a ≤ operand_words (take k os)
    ahead : (cut : List (List Operation)) → Cutting os cut → end_of a cut ≤ k

  record End (a : ℕ) : Type 0 where
    words : Bounded (operand_words os) a
    fewest : (cut : List (List Operation)) → Cutting os cut → a ≤ areas_of cut

  abbrev Open : Standing (List ℕ) → ℕ → Type 0
  Open = session.Open carried_then area_then (reading s) os Names Fill End

  abbrev Step : ℕ → ℕ → Found → Type 0
  Step = session.Step carried_then area_then (reading s) os Names Fill End

  begins : session.Stands carried_then area_then (reading s) os Names Fill End (start s u)
  unfolding operand_words word_bytes be_bytes joined_runs
  begins = session.starts carried_then area_then (reading s) os Names Fill End (start s u).carried refl (record { words = omega arith; ahead = λ cut c. omega arith })

  module _ (st : Standing (List ℕ)) (k : ℕ) (o : Open st k) where
    k_le : k ≤ length os
    k_le = session.within carried_then area_then (reading s) os Names Fill End st k o

    k_small : k < 0x1_0000_0000
    k_small = omega (arith, k_le, ls.few)

    -- ---- an answered call of the session
    module _ (c : Found) (yes : is_answered c ≡ true) (n : Continues j s st c) where
      k-is : state_in (area_before c) ≡ k
      k-is = state_of_lem (area_before c) units k (n.carries ∙ o.named) k_small

      -- the call asks for what the session asks for
      same_units : units_of s (unit_in (area_before c)) ≡ units
      same_units = unit_of_lem (area_before c) s u k u-small (n.carries ∙ o.named)

      left : Answered c
      left = answered_is c n.nodes yes

      size : length (area_before c) ≡ 4096
      size = part_length c.memory (address c) 4096 left.passed.inside

      area_is : area_then c ≡ written units (area_before c) os k
      area_is =
          ap (λ (m : List ℕ). area_at m (address c)) (left.memory ∙ rw (n.of_scope, n.unchanged, k-is, same_units))
          ∙ part_stored c.memory (address c) 4096 left.passed.inside (written units (area_before c) os k) (written_length units (area_before c) os k size k_le)

      runs : RunFacts os k
      runs = run_facts os k k_le

      carried_then_lem : carried_then c ≡ carried_head units (next_state os k)
      carried_then_lem = ap head_of area_is ∙ written_head units (area_before c) os k

      -- an area that ends the list: only an empty list has one with nothing in it
      last : k + length (run os k) ≡ length os → Bounded (operand_words os) (length st.areas + 1)
      last e =
          let whole : operand_words os ≡ operand_words (take k os) + operand_words (run os k) = ap operand_words (sym (take_all (k + length (run os k)) os (omega arith))) ∙ runs.words_so_far in
          let empty : k ≡ length os → length os ≡ 0 = λ q. ⊎_elim (λ z. omega arith) (λ l. omega arith) o.place in
          ⊎_elim
          (λ q. omega (arith, o.fills.words, operand_words_le os, empty q))
          (λ l. omega (arith, o.fills.words, length_le_operand_words (run os k), runs.some_more l))
          (eq-or-lt_of_le k_le)

      -- nor has a cutting come to the end before it: each is behind the place, or nothing stands before either
      last_fewest : (cut : List (List Operation)) → Cutting os cut → length st.areas + 1 ≤ areas_of cut
      last_fewest cut x = ⊎_elim
          (λ e. omega (arith, o.fills.words, operand_words_le (take k os), length-take k os, areas_least cut))
          (λ l. another_area os cut x (length st.areas) (omega (arith, o.fills.ahead cut x)))
          o.place

      step : Step (length st.areas) k c
      unfolding remains next_state
      step =
          record {
            n = length (run os k);
            inside = runs.within;
            reads = ap (reading s) area_is ∙ area_claims.round_trip s u (area_before c) os k u-small size ls k_le ∙ ap read (area_claims.longest_run os k).first;
            status = left.status ∙ rw (n.of_scope, n.unchanged, k-is, same_units);
            names = λ l. carried_then_lem ∙ rw (lt-ltb (k + length (run os k)) (length os) l);
            fills = λ l. record {
              words = omega (arith, o.fills.words, runs.words_so_far, runs.many l);
              ahead = λ cut x. stays_behind os cut x (length st.areas) k (o.fills.ahead cut x);
            };
            ends = λ e. record { words = last e; fewest = last_fewest };
          }

    -- ---- a well-made call is answered while the session is open
    module _ (w : well_formed j ≡ true) (v : valid s ≡ true) (c : Found) (m : WellMade j s st c) where
      good-state : (eqb k 0 || ltb k (length os)) ≡ true
      good-state = ⊎_elim (λ e. rw (eq-eqb k 0 e)) (λ l. simp (lt-ltb k (length os) l, or-true)) o.place

      passed : Passed c.memory (address c) (input c.args 1) c.journal
      unfolding good_state
      passed = record {
        aligned = m.aligned;
        inside = m.inside;
        scoped = rw m.of_scope v;
        formed = rw m.unchanged w;
        clear = rw m.of_scope (reserved_of (area_before c) s u k (m.carries ∙ o.named));
        begun = rw (state_of_lem (area_before c) units k (m.carries ∙ o.named) k_small, m.of_scope, m.unchanged, unit_of_lem (area_before c) s u k u-small (m.carries ∙ o.named)) good-state;
      }

      answers : is_answered c ≡ true
      answers =
          let b = c.args in
          will_answer c (given_by 2 1 b m.two_inputs m.one_output refl refl m.whole) (asks_by 1 2 1 b m.nodes m.two_inputs m.one_output) passed

  -- ---- the account of a session

  -- what the account gives: a session stands open, or closed
  stood : (cs : List Found) → Session j s u cs → session.Stands carried_then area_then (reading s) os Names Fill End (standing s u cs)
  stood cs h = session.stands carried_then area_then (reading s) os Names Fill End (Continues j s) (λ st c n. n.unfinished) step (start s u) cs begins h

  fewest_of : (cs : List Found) → Session j s u cs → (standing s u cs).done ≡ true → (cut : List (List Operation)) → Cutting os cut → length (standing s u cs).areas ≤ areas_of cut
  fewest_of cs h d cut x = ⊎_elim (λ o. absurd (true≢false (sym d ∙ o.1.unfinished))) (λ c. c.ends.fewest cut x) (stood cs h)

  module _ (w : well_formed j ≡ true) (v : valid s ≡ true) where
    open_demand : (st : Standing (List ℕ)) (k : ℕ) → Open st k → Accounted j s os st
    unfolding reported word_bytes be_bytes
    open_demand st k o =
        let state-is : state_in st.carried ≡ k = state_of_lem st.carried units k (ap head_of o.named) (k_small st k o) in
        record { handed = rw (o.unfinished, state-is) o.handed; bounded = omega (arith, o.fills.words, words_part k os); answers = λ e. answers st k o w v }

    closed_demand : (st : Standing (List ℕ)) → session.Closed carried_then area_then (reading s) os Names Fill End st → Accounted j s os st
    unfolding reported
    closed_demand st c = record { handed = rw (c.finished, take_all (length os) os (omega arith)) c.handed; bounded = c.ends.words; answers = λ e. absurd (true≢false (sym c.finished ∙ e)) }

    accounted : (cs : List Found) → Session j s u cs → Accounted j s os (standing s u cs)
    accounted cs h = ⊎_elim (λ o. open_demand (standing s u cs) o.0 o.1) (closed_demand (standing s u cs)) (stood cs h)

    ends : (cs : List Found) → Session j s u cs → Ends j s u os cs
    ends cs h n a l = session.session_ends carried_then area_then (reading s) os Names Fill End (Continues j s) (λ st c m. m.unfinished) step (WellMade j s) (λ st k o. answers st k o w v) (start s u) cs n
        (λ b k f p g. omega (arith, words_part k os)) begins h a

pub demand3 : Demand3
demand3 j s u bytes u-small w v cs h =
    let ls = area_claims.reportable_listed (selection_of s u) j bytes w in
    (accounted j s u u-small ls w v cs h, ends j s u u-small ls w v cs h)

pub fewest : FewestAreas
fewest j s u bytes u-small w v = fewest_of j s u u-small (area_claims.reportable_listed (selection_of s u) j bytes w)

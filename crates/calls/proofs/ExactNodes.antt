-- Demand 2 of update-nodes: the exact condition of each status, and what an answer leaves.
use mathlib.Core.Path.{◌≡◌, refl, sym, ap, ◌∙◌}
use mathlib.Core.Bool.{true, false, ◌&&◌, not}
use mathlib.Core.List.{List, [], ◌∷◌, ◌++◌, append_assoc}
use mathlib.Core.Logic.{◌⊎◌}
use Prim.Native.Nat.{ℕ, ◌+◌, ◌*◌, ◌%◌, ◌≤◌, ◌<◌}
use native.Mathlib.Omega.{arith}
use lib.Dec.{leb, ltb, eqb}
use borrow.Author.Tests.{ltb-true, eq-eqb, eqb-true, eqb-false}
use lib.ListN.{length, drop, get_or, length-append}
use lib.Seq.{drop_at}
use Rattle.words.specs.Claims.Exactly.{Exactly}
use Rattle.words.specs.Numbers.{Bytes, be, be32, be_bytes, word_bytes}
use Rattle.words.proofs.Numbers.{be_below, be_drop, be_bytes_lem}
use Rattle.words.proofs.Choice.{choose, decide}
use Rattle.words.proofs.Stores.{length_word_bytes, word_bytes_append, word_bytes_one}
use Rattle.journal.specs.declared.operation.Operation.{Operation}
use Rattle.journal.specs.declared.scope.Units.{Units}
use Rattle.journal.specs.Journal.{well_formed}
use Rattle.journal.specs.Scope.{negative, valid, units_of, Selection}
use Rattle.journal.specs.Reportable.{reportable}
use Rattle.node_area.specs.Head.{head_words, unit_in, is_reserved}
use Rattle.nodes.specs.Run.{cost, run, remains, next_state}
use Rattle.nodes.specs.Area.{body, answer, written}
use Rattle.nodes.specs.Claims.Nodes.{Listed}
use Rattle.nodes.proofs.Claims.{area_claims}
use Rattle.nodes.proofs.Runs.{length_body}
use Rattle.nodes.proofs.Carried.{state_of_lem, reserved_of, unit_of_lem, written_head}
use Rattle.calls.specs.Status.{status_word}
use Rattle.calls.specs.UpdateNodes.{area_at, placed, good_state, area_status, asks_for, nodes_status, nodes_memory}
use Rattle.calls.specs.Claims.Terms.{minus}
use Rattle.calls.specs.Claims.ExactNodes as exact
use Rattle.calls.specs.Claims.ExactNodes.{ExactNodes}
use Rattle.calls.proofs.Exactly.{equal, at_most, below, both, either, fails, same}
use Rattle.calls.proofs.Ladder.{ladder, is_malformed, ladder_malformed, ladder_otherwise}
use Rattle.calls.proofs.Areas.{state_within}
use Rattle.calls.proofs.Calls.{Passed, passed_is, nodes_answers, nodes_status_lem, nodes_memory_lem, word_either}
use Rattle.calls.proofs.Memory.{part_length, part_bytes, part_stored, front_behind, written_length}

-- ---- the checks in the paper's numerals

placed_exact : (m : List ℕ) (address : ℕ) → Exactly (placed m address ≡ true) ((address % 4096 ≡ 0) × (address + 4096 ≤ length m))
unfolding placed
placed_exact m address = both (eqb (address % 4096) 0) (leb (address + 4096) (length m)) (equal (address % 4096) 0) (at_most (address + 4096) (length m))

valid_exact : (scope : ℕ) → Exactly (valid scope ≡ true) ((0x8000_0000 ≤ scope) ⊎ ((scope ≡ 1) ⊎ ((scope ≡ 2) ⊎ (scope ≡ 3))))
unfolding valid negative
valid_exact scope = either (leb 0x8000_0000 scope) _ (at_most 0x8000_0000 scope) (either (eqb scope 1) _ (equal scope 1) (either (eqb scope 2) (eqb scope 3) (equal scope 2) (equal scope 3)))

state_exact : (selection : Selection) (j area : List ℕ) → Exactly (good_state selection j area ≡ true) ((be32 area 0 ≡ 0) ⊎ (be32 area 0 < length (reportable selection j)))
unfolding good_state
state_exact selection j area = either (eqb (be32 area 0) 0) (ltb (be32 area 0) (length (reportable selection j))) (equal (be32 area 0) 0) (below (be32 area 0) (length (reportable selection j)))

pub asked_exact : (m : List ℕ) (address scope : ℕ) → Exactly ((placed m address && valid scope) ≡ true) (exact.Asked m address scope)
asked_exact m address scope =
    let e = both (placed m address) (valid scope) (placed_exact m address) (valid_exact scope) in
    (λ h. let a = e.0 h in record { aligned = a.0.0; inside = a.0.1; scoped = a.1 }, λ a. e.1 ((a.aligned, a.inside), a.scoped))

-- ---- the area that an answer leaves

-- bytes behind the terminator
behind : (units : Units) (area : List ℕ) (os : List Operation) (state k : ℕ) → 16 + 4 * cost (run os state) + 4 ≤ k → get_or (written units area os state) k 0 ≡ get_or area k 0
unfolding written answer
behind units area os state k h =
    let size : length (word_bytes (answer units os state)) ≡ 20 + 4 * cost (run os state) = simp (length_word_bytes, length-append, length_body) (omega arith) in
    front_behind (word_bytes (answer units os state)) area k (omega arith)

-- the terminator stands behind the run
ends_zero : (units : Units) (area : List ℕ) (os : List Operation) (state : ℕ) → be32 (written units area os state) (16 + 4 * cost (run os state)) ≡ 0
unfolding written answer
ends_zero units area os state =
    let front = head_words units (next_state os state) ++ body (run os state) in
    let rest = drop (length (word_bytes (answer units os state))) area in
    let n = 16 + 4 * cost (run os state) in
    let size : length (word_bytes front) ≡ n = simp (length_word_bytes, length_body) (omega arith) in
    let cut : written units area os state ≡ word_bytes front ++ (be_bytes 4 0 ++ rest) =
    ap (λ (l : List ℕ). l ++ rest) (word_bytes_append front (0 ∷ [])) ∙ rw (word_bytes_one 0) (append_assoc (word_bytes front) (be_bytes 4 0) rest) in
    ap (λ (k : ℕ). be 4 (written units area os state) k) (omega arith) ∙ sym (be_drop 4 n (written units area os state) 0)
    ∙ ap (λ (l : List ℕ). be 4 (drop n l) 0) cut ∙ ap (λ (l : List ℕ). be 4 l 0) (drop_at (word_bytes front) (be_bytes 4 0 ++ rest) n size) ∙ be_bytes_lem 4 0 rest

next_small : (os : List Operation) (state : ℕ) → length os < 0x1_0000_0000 → next_state os state < 0x1_0000_0000
unfolding next_state remains
next_small os state h = choose (ltb (state + length (run os state)) (length os)) (λ (n : ℕ). n < 0x1_0000_0000) (λ e. omega (arith, ltb-true (state + length (run os state)) (length os) e)) (λ _. omega arith)

-- in scope 3 the units tell the address
named : (scope x u : ℕ) → scope ≡ 3 → units_of scope x ≡ units_of scope u → x ≡ u
unfolding units_of
named scope x u three e = let one = rw (eq-eqb scope 3 three) at e in cc

module _ (m j : List ℕ) (address scope : ℕ) where
  abbrev area : List ℕ
  area = area_at m address

  abbrev os : List Operation
  os = reportable (asks_for scope area) j

  abbrev units : Units
  units = units_of scope (unit_in area)

  abbrev state : ℕ
  state = be32 area 0

  abbrev status : ℕ
  status = status_word (nodes_status m address scope j)

  abbrev after : List ℕ
  after = nodes_memory m address scope j

  status_is : nodes_status m address scope j ≡ ladder (placed m address) (valid scope) (well_formed j) (is_reserved scope area) (good_state (asks_for scope area) j area) (remains os state)
  unfolding nodes_status area_status
  status_is = refl

  passed : status ≤ 1 → Passed m address scope j
  passed h = passed_is m address scope j ((at_most status 1).1 h)

  -- the reserved bytes, by the scope
  clear_is : (l : List ℕ) → Exactly (is_reserved scope l ≡ true) (exact.Clear scope l)
  unfolding is_reserved
  clear_is l = decide (eqb scope 3)
      (λ t. let three = eqb-true scope 3 t in (λ h. record { other = λ n. absurd (n three); unit = λ _. rw t at h }, λ c. rw t (c.unit three)))
      (λ t. let no = eqb-false scope 3 t in (λ h. record { other = λ _. rw t at h; unit = λ e. absurd (no e) }, λ c. rw t (c.other no)))

  answered : Exactly (status ≤ 1) (exact.Asked m address scope × exact.Passed scope j area os)
  answered = (
    (λ h. let p = passed h in (
      record { aligned = p.aligned; inside = p.inside; scoped = (valid_exact scope).0 p.scoped },
      record { formed = p.formed; clear = (clear_is area).0 p.clear; begun = (state_exact (asks_for scope area) j area).0 p.begun },
    )),
    (λ h. (at_most status 1).0 (nodes_answers m address scope j (record {
      aligned = h.0.aligned;
      inside = h.0.inside;
      scoped = (valid_exact scope).1 h.0.scoped;
      formed = h.1.formed;
      clear = (clear_is area).1 h.1.clear;
      begun = (state_exact (asks_for scope area) j area).1 h.1.begun;
    }))),
  )

  malformed : Exactly (status ≡ minus 1) (exact.Asked m address scope × (well_formed j ≡ false))
  malformed =
      let test = ap is_malformed status_is ∙ ladder_malformed (placed m address) (valid scope) (well_formed j) (is_reserved scope area) (good_state (asks_for scope area) j area) (remains os state) in
      same (eqb status 0xffff_ffff) ((placed m address && valid scope) && not (well_formed j)) test (equal status 0xffff_ffff)
      (both (placed m address && valid scope) (not (well_formed j)) (asked_exact m address scope) (fails (well_formed j)))

  module _ (h : status ≤ 1) where
    p : Passed m address scope j
    p = passed h

    within : state ≤ length os
    within = state_within (asks_for scope area) j area p.begun

    size : length area ≡ 4096
    size = part_length m address 4096 p.inside

    -- the area afterwards
    left_is : area_at after address ≡ written units area os state
    left_is =
        ap (λ (l : List ℕ). area_at l address) (nodes_memory_lem m address scope j p)
        ∙ part_stored m address 4096 p.inside (written units area os state) (written_length units area os state size within)

    answers : Bytes m → Bytes j → exact.Answer scope area (area_at after address) os (run os state) state status
    unfolding remains next_state
    answers memory bytes =
        let listed : Listed os = area_claims.reportable_listed (asks_for scope area) j bytes p.formed in
        let head = written_head units area os state in
        let unit_small = be_below area (part_bytes m address 4096 p.inside memory) 8 4 in
        rw left_is
        (record {
          longest = area_claims.longest_run os state;
          remaining = ap status_word (nodes_status_lem m address scope j p) ∙ word_either (remains os state);
          new_state = state_of_lem (written units area os state) units (next_state os state) head (next_small os state listed.few);
          clear = (clear_is (written units area os state)).0 (reserved_of (written units area os state) scope (unit_in area) (next_state os state) head);
          unit = λ three. named scope (unit_in (written units area os state)) (unit_in area) three (unit_of_lem (written units area os state) scope (unit_in area) (next_state os state) unit_small head);
          terminator = ends_zero units area os state;
          unchanged = behind units area os state;
          reads_back = area_claims.round_trip scope (unit_in area) area os state unit_small size listed within;
        })

  pub exact_nodes : ExactNodes m j address scope status after
  unfolding nodes_status area_status
  exact_nodes =
      record {
        answered = answered;
        malformed = malformed;
        otherwise = ladder_otherwise (placed m address) (valid scope) (well_formed j) (is_reserved scope area) (good_state (asks_for scope area) j area) (remains os state);
        answers = λ memory bytes h. answers h memory bytes;
        memory = λ h. nodes_memory_lem m address scope j (passed h);
      }

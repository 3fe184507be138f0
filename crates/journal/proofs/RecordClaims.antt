-- The claims about a good record of the journal, and about what one record adds to the list of an opcode, hold.
use mathlib.Core.Path.{◌≡◌, refl, sym, ap, ◌∙◌}
use mathlib.Core.Bool.{Bool, true, false, cond, ◌&&◌, ◌||◌, and-true, or-true}
use mathlib.Core.List.{List, [], ◌∷◌, ◌++◌, append-nil}
use Prim.Native.Nat.{ℕ, zero, suc, ◌+◌, ◌≤◌}
use native.Mathlib.Omega.{arith}
use lib.Dec.{leb, eqb}
use lib.ListN.{length, get_or, drop, length-append, length-drop}
use lib.Seq.{drop-drop}
use borrow.Author.Tests.{le-leb, lt-leb, eq-eqb, ne_eqb, leb-true, eqb-true, eqb-false}
use Rattle.words.specs.Numbers.{le}
use Rattle.words.specs.Nul.{until_nul, is_ended}
use Rattle.words.specs.Claims.Cases.{all}
use Rattle.words.specs.Claims.Exactly.{Named}
use Rattle.words.proofs.Choice.{decide, choose, and_left, and_right}
use Rattle.words.proofs.Named.{ended_named, named_ended, named_until, named_rest}
use Rattle.records.specs.Records.{length_of, kind_of, whole}
use Rattle.records.proofs.Whole.{whole_size, records_none}
use Rattle.records.proofs.Choosing.{chosen_none}
use Rattle.records.proofs.Joining.{one_record_lem}
use Rattle.records.specs.Choosing.{chosen_by}
use Rattle.journal.specs.declared.operation.Operation.{Operation}
use Rattle.journal.specs.declared.operation.Operation.TheVariants.{Delete, Update, Add}
use Rattle.journal.specs.declared.scope.Units.{Units}
use Rattle.journal.specs.Property.{name_of, value_of, value_most, property_frame, good_property}
use Rattle.journal.specs.Journal.{good_frame, node_type, good_node, good_record, IsOpcode, opcode, operation_of, unit_of, Entry, entry_of, entries}
use Rattle.journal.specs.Scope.{holds, negative, row_of, units_of, Selection, selection_of}
use Rattle.journal.specs.Reportable.{operation, asks, reports, reportable}
use Rattle.journal.specs.Inner.Terms.{length_for}
use Rattle.journal.specs.Claims.Records.{Good, kind_1, kind_2, kind_3, kind_4, kind_5, kind_6, JournalRecordExactly}
use Rattle.journal.specs.Claims.Records.{list_of, is_reported, one_if, adds, ReportableExactly}
use Rattle.journal.proofs.Opcodes.{code_1, code_2, code_3, each-code, each_kind}
use Rattle.journal.proofs.RecordLaws.{Typed, framed, typed}
use Rattle.journal.proofs.PropertyLaws.{property_framed, frame_length}
use Rattle.journal.proofs.Joins.{one_formed, list_join}

-- records of properties are reported under no opcode
properties_passed : (selection : Selection) (code : ℕ) (r : List ℕ) → 5 ≤ kind_of r → reports selection code (entry_of r) ≡ false
unfolding reports
properties_passed selection code r h = rw (le-leb 5 (kind_of r) h)

-- ---- a good record, by its kind

module _ (r : List ℕ) where
  -- of a node
  node_kinds : good_node r ≡ true → Good r
  unfolding good_node length_of kind_of node_type
  node_kinds g =
      let f = framed (length_of r) (kind_of r) (and_left _ _ g) in
      each_kind (λ (k : ℕ). kind_of r ≡ k → length_of r ≡ length_for k → Typed k (node_type r) → Good r)
      (λ e l t. kind_1 e l t.low (t.other (λ q. omega arith)))
      (λ e l t. kind_2 e l t.low (t.other (λ q. omega arith)))
      (λ e l t. kind_3 e l t.low (t.other (λ q. omega arith)))
      (λ e l t. kind_4 e l (t.unit refl) t.high)
      (kind_of r) f.of refl f.length_is (typed (kind_of r) (node_type r) (and_right (good_frame (length_of r) (kind_of r)) _ g))

  -- of a property: the value is what follows the name's NUL
  value-is : drop (length (until_nul (drop 8 r)) + 1) (drop 8 r) ≡ value_of r
  unfolding value_of name_of
  value-is =
      let n = length (until_nul (drop 8 r)) in
      let e : 8 + (n + 1) ≡ 8 + n + 1 = omega arith in
      drop-drop (n + 1) 8 r ∙ ap (λ (k : ℕ). drop k r) e

  property_kinds : good_property r ≡ true → Good r
  unfolding good_property kind_of
  property_kinds g =
      let f = property_framed (length_of r) (kind_of r) (and_left _ _ g) in
      let body = and_right (property_frame (length_of r) (kind_of r)) _ g in
      let named : Named 31 (drop 8 r) (until_nul (drop 8 r)) (value_of r) = rw value-is at (ended_named 31 (drop 8 r) (and_left _ _ body)) in
      let few = leb-true (length (value_of r)) (value_most (kind_of r)) (and_right (is_ended 31 (drop 8 r)) _ body) in
      decide (eqb (kind_of r) 5)
      (λ t. kind_5 (eqb-true (kind_of r) 5 t) _ _ named (rw t at few))
      (λ t. kind_6 (omega (arith, eqb-false (kind_of r) 5 t)) _ (rw (none (value_of r) (rw t at few)) at named))
    where
      none : (l : List ℕ) → length l ≤ 0 → l ≡ []
      none [] h = refl
      none (x ∷ l) h = absurd (omega arith)

  good_kinds : good_record r ≡ true → Good r
  unfolding good_record
  good_kinds g = decide (good_node r) node_kinds (λ n. property_kinds (rw n at g))

  -- and back
  module _ (w : whole r ≡ true) where
    named_good : 5 ≤ kind_of r → kind_of r ≤ 6 → (name value : List ℕ) → Named 31 (drop 8 r) name value → length value ≤ value_most (kind_of r)
        → good_record r ≡ true
    unfolding good_record good_property
    named_good low high name value n few =
        let size : length r ≡ length_of r + 2 = (whole_size r w).1 in
        let body : length (drop 8 r) ≡ length name + 1 + length value = ap length n.ended ∙ length-append name (0 ∷ value) ∙ omega arith in
        let all : length r ≡ 8 + (length name + 1 + length value) = omega (arith, length-drop 8 r, n.some) in
        let here : value_of r ≡ value = sym value-is ∙ rw (named_until n) (named_rest n) in
        rw (
          frame_length (length_of r) (kind_of r) low high,
          le-leb 8 (length_of r) (omega (arith, n.some)),
          le-leb (length_of r) (38 + value_most (kind_of r)) (omega (arith, n.few)),
          named_ended n,
          here,
          le-leb (length value) (value_most (kind_of r)) few,
        )
        (or-true (good_node r))

    kinds_good : Good r → good_record r ≡ true
    unfolding good_record good_node good_frame length_of kind_of node_type
    kinds_good (kind_1 k l low high) = rw (k, l, le-leb 1 (le 2 r 4) low, le-leb (le 2 r 4) 14 high)
    kinds_good (kind_2 k l low high) = rw (k, l, le-leb 1 (le 2 r 4) low, le-leb (le 2 r 4) 14 high)
    kinds_good (kind_3 k l low high) = rw (k, l, le-leb 1 (le 2 r 4) low, le-leb (le 2 r 4) 14 high)
    kinds_good (kind_4 k l low high) = rw (k, l, le-leb 15 (le 2 r 4) low, le-leb (le 2 r 4) 16 high)
    kinds_good (kind_5 k name value n few) = named_good (omega arith) (omega arith) name value n (rw k few)
    kinds_good (kind_6 k name n) = named_good (omega arith) (omega arith) name [] n (rw k (omega arith))

pub journal_record_exactly : JournalRecordExactly
journal_record_exactly r w = (good_kinds r, kinds_good r w)

-- ---- what a record adds to the list of an opcode

-- a row holds three sets alone
all-at : (test : ℕ → Bool) (l : List ℕ) (n : ℕ) → test 0 ≡ true → all test l ≡ true → test (get_or l n 0) ≡ true
all-at test [] n z h = z
all-at test (x ∷ l) zero z h = and_left (test x) _ h
all-at test (x ∷ l) (suc n) z h = all-at test l n z (and_right (test x) _ h)

abbrev is_set : ℕ → Bool
is_set x = eqb x 0 || (eqb x 2 || eqb x 7)

each_set : (P : ℕ → Type 0) → P 0 → P 2 → P 7 → (x : ℕ) → is_set x ≡ true → P x
each_set P a b c x h = decide (eqb x 0)
    (λ t. rw (eqb-true x 0 t) a)
    (λ t. decide (eqb x 2) (λ u. rw (eqb-true x 2 u) b) (λ u. rw (eqb-true x 7 (rw (t, u) at h)) c))

-- each holds an opcode as the claim reads it
abbrev Holds : ℕ → ℕ → Type 0
Holds x code = holds x code ≡ (eqb x 7 || (eqb x 2 && eqb code 2))

module _ (scope : ℕ) where
  -- a statement about the row of a scope
  each_row : (P : List ℕ → Type 0) → (scope ≡ 3 → P (row_of 3))
      → ((scope ≡ 3 → ⊥) → P (row_of 0x8000_0000) × P (row_of 1) × P (row_of 2) × P (row_of 0)) → P (row_of scope)
  unfolding row_of negative
  each_row P third other =
      choose (leb 0x8000_0000 scope) P (λ t. (other (λ e. omega (arith, leb-true 0x8000_0000 scope t))).0)
      (λ _. choose (eqb scope 1) P (λ t. (other (λ e. omega (arith, eqb-true scope 1 t))).1)
      (λ _. choose (eqb scope 2) P (λ t. (other (λ e. omega (arith, eqb-true scope 2 t))).2)
      (λ _. choose (eqb scope 3) P (λ t. third (eqb-true scope 3 t)) (λ t. (other (eqb-false scope 3 t)).3))))

  holds_is : (node code : ℕ) → IsOpcode code → holds (get_or (row_of scope) node 0) code ≡ is_reported scope node code
  unfolding row_of negative
  holds_is node = each_set (λ (x : ℕ). (code : ℕ) → IsOpcode code → Holds x code)
      (each-code (Holds 0) refl refl refl) (each-code (Holds 2) refl refl refl) (each-code (Holds 7) refl refl refl) (get_or (row_of scope) node 0)
      (all-at is_set (row_of scope) node refl (each_row (λ (l : List ℕ). all is_set l ≡ true) (λ _. refl) (λ _. (refl, refl, refl, refl))))

  -- node types 15 and 16 are in the row of scope 3 alone
  unit_sets : (get_or (row_of scope) 15 0 ≡ cond (eqb scope 3) 2 0) × (get_or (row_of scope) 16 0 ≡ cond (eqb scope 3) 2 0)
  unfolding row_of negative
  unit_sets = each_row (λ (l : List ℕ). (get_or l 15 0 ≡ cond (eqb scope 3) 2 0) × (get_or l 16 0 ≡ cond (eqb scope 3) 2 0))
      (λ e. rw (eq-eqb scope 3 e) (refl, refl))
      (λ n. rw (ne_eqb scope 3 n) ((refl, refl), (refl, refl), (refl, refl), (refl, refl)))

  unit_set : (node : ℕ) → 15 ≤ node → node ≤ 16 → get_or (row_of scope) node 0 ≡ cond (eqb scope 3) 2 0
  unit_set node low high = decide (eqb node 15)
      (λ t. rw (eqb-true node 15 t) unit_sets.0)
      (λ t. let e : node ≡ 16 = omega (arith, eqb-false node 15 t) in rw e unit_sets.1)

module _ (scope unit code : ℕ) where
  abbrev sel : Selection
  sel = selection_of scope unit

  -- whether an entry is reported, by its node type
  module _ (e : Entry) where
    asks_type : e.node ≤ 14 → asks sel.units e ≡ true
    unfolding units_of
    asks_type h = choose (eqb scope 3) (λ (u : Units). asks u e ≡ true) (λ _. rw (le-leb e.node 14 h)) (λ _. refl)

    reports_type : (k : ℕ) → IsOpcode k → opcode e.operation ≡ k → 1 ≤ e.node → e.node ≤ 14
        → reports sel code e ≡ (eqb code k && is_reported scope e.node k)
    unfolding reports
    reports_type k o p low high =
        rw (p, le-leb 1 e.node low, asks_type high, and-true (eqb k code && holds (get_or (row_of scope) e.node 0) code))
        (decide (eqb code k)
        (λ t. rw (eqb-true code k t, eq-eqb k k refl) (holds_is scope e.node k o))
        (λ t. rw (t, ne_eqb k code (λ q. eqb-false code k t (sym q)))))

    reports_unit : opcode e.operation ≡ 2 → 15 ≤ e.node → e.node ≤ 16
        → reports sel code e ≡ (eqb code 2 && (eqb scope 3 && eqb e.unit unit))
    unfolding reports units_of
    reports_unit p low high =
        rw (p, le-leb 1 e.node (omega arith), unit_set scope e.node low high)
        (decide (eqb code 2)
        (λ t. rw (eqb-true code 2 t) (decide (eqb scope 3) (λ u. rw (u, lt-leb e.node 14 (omega arith))) (λ u. rw u)))
        (λ t. rw (t, ne_eqb 2 code (λ q. eqb-false code 2 t (sym q)))))

  -- the list of one record
  module _ (r : List ℕ) where
    abbrev made : ℕ → Operation → Entry
    made u o = record { node = le 2 r 4; unit = u; operation = o }

    record_adds : Good r → one_if (reports sel code (entry_of r)) (operation_of r) ≡ adds scope unit code r
    unfolding operation_of unit_of kind_of node_type
    record_adds (kind_1 k l low high) = rw (k, reports_type (made 0 (Delete (le 4 r 6))) 1 code_1 refl low high) (sym (append-nil _))
    record_adds (kind_2 k l low high) = rw (k, reports_type (made 0 (Update (le 4 r 6))) 2 code_2 refl low high) (sym (append-nil _))
    record_adds (kind_3 k l low high) = rw (k, reports_type (made 0 (Add (le 4 r 6) (le 4 r 10))) 3 code_3 refl low high) (sym (append-nil _))
    record_adds (kind_4 k l low high) = rw (k, reports_unit (made (le 8 r 6) (Update (le 4 r 14))) refl low high)
    record_adds (kind_5 k name value n few) = rw (properties_passed sel code r (omega arith), k)
    record_adds (kind_6 k name n) = rw (properties_passed sel code r (omega arith), k)

    one_list : whole r ≡ true → list_of scope unit code r ≡ one_if (reports sel code (entry_of r)) (operation_of r)
    unfolding entries chosen_by
    one_list w = rw (one_record_lem r w)

    -- and of one record, then others
    each_adds : (rest : List ℕ) → whole r ≡ true → good_record r ≡ true
        → list_of scope unit code (r ++ rest) ≡ adds scope unit code r ++ list_of scope unit code rest
    each_adds rest w g =
        let both : (whole r && good_record r) ≡ true = rw (w, g) in
        list_join r rest (one_formed r both) sel code
        ∙ ap (λ (l : List Operation). l ++ list_of scope unit code rest) (one_list w ∙ record_adds (good_kinds r g))

pub reportable_exactly : ReportableExactly
unfolding reportable entries
reportable_exactly = record {
  parts = λ scope unit j. refl;
  counts = λ scope unit j. refl;
  empty = λ scope unit code. rw records_none (chosen_none (reports (selection_of scope unit) code) operation);
  each = each_adds;
  end_to_end = λ scope unit code a b w. list_join a b w (selection_of scope unit) code;
}

-- The row of scope 3 in numbers, record by record: the claim holds.
use mathlib.Core.Path.{◌≡◌, refl, sym, ◌∙◌}
use mathlib.Core.Bool.{Bool, true, false, cond, ◌&&◌, and-true, and-false, or-false}
use mathlib.Core.List.{List, [], ◌∷◌, map}
use mathlib.Core.Logic.{⊎_elim}
use Prim.Native.Nat.{ℕ, ◌+◌, ◌≤◌, ◌<◌}
use native.Mathlib.Nat.{eq-or-lt_of_le}
use native.Mathlib.Omega.{arith}
use lib.Dec.{leb, eqb}
use lib.ListN.{length, get_or, replicate, get_or-replicate, get_or-append}
use borrow.Author.Tests.{le-leb, leb-true, eqb-true}
use Rattle.words.proofs.Choice.{decide, and_left, and_right}
use Rattle.records.specs.Records.{kind_of, length_of, records, all_good, whole}
use Rattle.records.proofs.Whole.{first_good, later_good}
use Rattle.records.proofs.Choosing.{one_if_lem, chosen_none, chosen_length}
use Rattle.journal.specs.Property.{property_frame, good_property}
use Rattle.journal.specs.Journal.{IsOpcode, good_frame, good_type, node_type, good_node, good_record, operation_of, entry_of, entries}
use Rattle.journal.specs.Scope.{holds, rows}
use Rattle.journal.specs.Reportable.{operation, reports, chosen}
use Rattle.journal.proofs.Opcodes.{code_1, code_2, code_3, each-code}
use Rattle.journal.proofs.Walks.{all_good_lem}
use Rattle.stretch.specs.Packed.{row}
use Rattle.tallies.specs.Tallies.{recount_of}
use Rattle.tallies.specs.Claims.Rows.{of_kind, ThirdRow}

-- the sets of the row: none up to node type 14, updates for 15 and 16
third_low : (node : ℕ) → node ≤ 14 → get_or (row 3).sets node 0 ≡ 0
unfolding rows
third_low node h = get_or-append (replicate 15 0) (2 ∷ 2 ∷ []) 0 node (omega arith) ∙ get_or-replicate 15 node 0 0 (omega arith)

third_high : (node : ℕ) → 15 ≤ node → node ≤ 16 → get_or (row 3).sets node 0 ≡ 2
unfolding rows
third_high node l h = ⊎_elim (λ (e : 15 ≡ node). rw (sym e)) (λ (m : 15 < node). let e : node ≡ 16 = omega arith in rw e) (eq-or-lt_of_le l)

none_held : (code : ℕ) → IsOpcode code → holds 0 code ≡ false
none_held = each-code (λ (c : ℕ). holds 0 c ≡ false) refl refl refl

updates_held : (code : ℕ) → IsOpcode code → (eqb 2 code && holds 2 code) ≡ eqb code 2
updates_held = each-code (λ (c : ℕ). (eqb 2 c && holds 2 c) ≡ eqb c 2) refl refl refl

module _ (r : List ℕ) (good : good_record r ≡ true) where
  -- a good record of kinds 1 to 4 has a good node type
  typed : leb 5 (kind_of r) ≡ false → good_type (kind_of r) (node_type r) ≡ true
  unfolding good_record good_node good_property property_frame
  typed t = and_right (good_frame (length_of r) (kind_of r)) _ (sym (or-false _) ∙ (rw t at good))

  -- so the row reports those of kind 4, as updates
  third_unit : (code : ℕ) → IsOpcode code → kind_of r ≡ 4 → reports (row 3) code (entry_of r) ≡ eqb code 2
  unfolding reports operation_of
  third_unit code o four =
      let node = rw four at (typed (rw four)) in
      let low = leb-true 15 (node_type r) (and_left _ _ node) in
      let high = leb-true (node_type r) 16 (and_right (leb 15 (node_type r)) _ node) in
      rw (four, le-leb 1 (node_type r) (omega arith), third_high (node_type r) low high, updates_held code o, and-true)

  third_other : (code : ℕ) → IsOpcode code → eqb (kind_of r) 4 ≡ false → reports (row 3) code (entry_of r) ≡ false
  unfolding reports
  third_other code o e =
      let low : (entry_of r).node ≤ 14 = decide (leb 5 (kind_of r))
      (λ t. rw t (omega arith)) (λ t. rw t (leb-true (node_type r) 14 (and_right (leb 1 (node_type r)) _ (rw e at (typed t))))) in
      rw (third_low (entry_of r).node low, none_held code o) (simp and-false)

  third_reports : (code : ℕ) → IsOpcode code → reports (row 3) code (entry_of r) ≡ (eqb (kind_of r) 4 && eqb code 2)
  third_reports code o = decide (eqb (kind_of r) 4) (λ e. rw e (third_unit code o (eqb-true _ _ e))) (λ e. rw e (third_other code o e))

-- along good records
third_step : (four two : Bool) (n : ℕ) → one_if_lem (four && two) + cond two n 0 ≡ cond two (one_if_lem four + n) 0
third_step four true n = rw and-true
third_step four false n = rw and-false

third_count : (code : ℕ) → IsOpcode code → (rs : List (List ℕ)) → all_good good_record rs ≡ true
    → length (chosen (row 3) code (map entry_of rs)) ≡ cond (eqb code 2) (of_kind 4 rs) 0
unfolding of_kind kind_of
third_count code o [] g = simp chosen_none (decide (eqb code 2) (λ e. rw e) (λ e. rw e))
third_count code o (r ∷ rs) g =
    chosen_length (reports (row 3) code) operation (entry_of r) (map entry_of rs)
    ∙ rw (third_reports r (and_right (whole r) _ (first_good good_record r rs g)) code o, third_count code o rs (later_good good_record r rs g))
    (third_step (eqb (kind_of r) 4) (eqb code 2) (of_kind 4 rs))

pub third_row_claim : ThirdRow
unfolding recount_of entries
third_row_claim j w =
    let good = all_good_lem j w in
    rw (third_count 1 code_1 (records j) good, third_count 2 code_2 (records j) good, third_count 3 code_3 (records j) good)

-- What a good record adds to the packed counts of every row, and the sums of such counts.
use mathlib.Core.Path.{◌≡◌, refl, sym, ap, ◌∙◌}
use mathlib.Core.Bool.{Bool, true, false, cond, ◌&&◌}
use mathlib.Core.List.{List, [], ◌++◌}
use Prim.Native.Nat.{ℕ, ◌+◌, ◌*◌, ◌-◌, ◌/◌, ◌^◌, ◌<◌, ◌≤◌}
use native.Mathlib.Omega.{arith}
use lib.Dec.{eqb}
use lib.ListN.{length, get_or, drop}
use Rattle.words.specs.Numbers.{Bytes, le}
use Rattle.words.proofs.Choice.{decide, and_left}
use Rattle.records.specs.Choosing.{chosen_by}
use Rattle.records.specs.Records.{kind_of, size_of, first_record, records, records_from, whole}
use Rattle.records.proofs.Choosing.{one_if_lem, chosen_none, chosen_length}
use Rattle.records.proofs.Joining.{one_record_lem}
use Rattle.journal.specs.declared.counts.Counts.{Counts}
use Rattle.journal.specs.declared.judging.Shape.{Shape}
use Rattle.journal.specs.Journal.{well_formed, IsOpcode, entry_of, entries}
use Rattle.journal.specs.Scope.{rows, holds, Selection}
use Rattle.journal.specs.Reportable.{operation, reports, chosen, counts_of}
use Rattle.journal.specs.Holding.{good_here, property_here}
use Rattle.journal.specs.Marks.{count_limit, count}
use Rattle.journal.specs.Terms.{node_here, shape_at}
use Rattle.journal.proofs.Opcodes.{each-code, kind_opcode}
use Rattle.journal.proofs.RecordLaws.{good_size_lem, good_kind, good_reports}
use Rattle.journal.proofs.GoodLaws.{good_either, node_good, property_good, property_passed}
use Rattle.journal.proofs.Sizes.{sized_here}
use Rattle.journal.proofs.Joins.{count_join}
use Rattle.scanning.specs.Inner.Terms.{largest_weight, weight_of, unpacked}
use Rattle.scanning.proofs.Weighing.{weight_light}
use Rattle.scanning.proofs.Headers.{same_shape}
use Rattle.stretch.specs.declared.packed.Packed.{Packed}
use Rattle.stretch.specs.Packed.{row, by_row, packed, packed_of, no_packed, plus, weights_for}
use Rattle.stretch.specs.Inner.Stretches.{Few}
use Rattle.stretch.specs.Inner.Terms.{Adds, Known}

-- in every row
rows_same : (f g : ℕ → ℕ) → ((n : ℕ) → f n ≡ g n) → by_row f ≡ by_row g
rows_same f g h = rw (h 0, h 1, h 2, h 3)

-- ---- bytes that are one record

-- three tests as packed counts
abbrev packed_if : (ℕ → Bool) → ℕ
packed_if f = one_if_lem (f 1) + (count_limit * one_if_lem (f 2) + largest_weight * one_if_lem (f 3))

-- an opcode counts as its own unit where a set holds it
code_packed : (set op : ℕ) → IsOpcode op → packed_if (λ code. (eqb op code && holds set code) && true) ≡ cond (holds set op) (count_limit ^ (op - 1)) 0
code_packed set = each-code (λ (op : ℕ). packed_if (λ code. (eqb op code && holds set code) && true) ≡ cond (holds set op) (count_limit ^ (op - 1)) 0)
    (either (λ t. packed_if (λ code. (eqb 1 code && t) && true) ≡ cond t 1 0) refl refl (holds set 1))
    (either (λ t. packed_if (λ code. (eqb 2 code && t) && true) ≡ cond t count_limit 0) refl refl (holds set 2))
    (either (λ t. packed_if (λ code. (eqb 3 code && t) && true) ≡ cond t largest_weight 0) refl refl (holds set 3))
  where
    either : (P : Bool → Type 0) → P true → P false → (t : Bool) → P t
    either P x y true = x
    either P x y false = y

-- a record counts where it is reported
one_counts : (sel : Selection) (r : List ℕ) → whole r ≡ true → (code : ℕ) → length (chosen sel code (entries r)) ≡ one_if_lem (reports sel code (entry_of r))
unfolding entries
one_counts sel r w code = rw (one_record_lem r w) (omega (arith, chosen_length (reports sel code) operation (entry_of r) [], ap length (chosen_none (reports sel code) operation)))

module _ (j : List ℕ) (at : ℕ) where
  abbrev here : List ℕ
  here = first_record (drop at j)

  -- the packed counts of a row, by what the row reports of the record
  row_packed : good_here j at ≡ true → (n : ℕ) (f : ℕ → Bool) → ((code : ℕ) → reports (row n) code (entry_of here) ≡ f code) → packed (counts_of (row n) here) ≡ packed_if f
  row_packed good n f told =
      let one : (code : ℕ) → length (chosen (row n) code (entries here)) ≡ one_if_lem (f code) = λ code. one_counts (row n) here (and_left _ _ good) code ∙ ap one_if_lem (told code) in
      rw (one 1, one 2, one 3)

  node_row : node_here j at ≡ true → (n : ℕ) → packed (counts_of (row n) here) ≡ weight_of (get_or rows n []) (kind_of (drop at j)) (le 2 j (at + 4))
  node_row good n = row_packed (node_good j at good) n _ (good_reports j at good (row n)) ∙ code_packed _ _ (kind_opcode (kind_of (drop at j)) (good_kind j at good))

  property_row : at ≤ length j → property_here j at ≡ true → (n : ℕ) → packed (counts_of (row n) here) ≡ 0
  property_row inside p n = row_packed (property_good j at p) n (λ _. false) (property_passed j at inside p (row n))

  -- what it adds: of a node by its kind and its node type, of a property nothing
  pub node_adds : (s : Shape) → (node_here j at ≡ true) × (s ≡ shape_at j at) → Adds j at s.size (weights_for s.kind s.node)
  unfolding packed_of
  node_adds s judged = rw judged.1 (record { good = node_good j at judged.0; size_is = refl; weight_is = sym (rows_same _ _ (node_row judged.0)) })

  pub property_adds : (size : ℕ) → at ≤ length j → property_here j at ≡ true → size ≡ size_of (drop at j) → Adds j at size no_packed
  unfolding packed_of
  property_adds size inside p e = record { good = property_good j at p; size_is = sym e; weight_is = sym (rows_same _ _ (property_row inside p)) }

  -- at most one operation in a row
  row_few : good_here j at ≡ true → (n : ℕ) → packed (counts_of (row n) here) ≤ largest_weight
  row_few good n = decide (node_here j at)
      (λ e. rw (node_row e n) (weight_light _ _ (kind_opcode (kind_of (drop at j)) (good_kind j at e))).1)
      (λ e. rw (property_row (omega (arith, sized_here j at good)) (rw e at (sym (good_either j at) ∙ good)) n) (omega arith))

  pub adds_few : (size : ℕ) (w : Packed) → Adds j at size w → Few 1 w
  unfolding packed_of
  adds_few size w a = let few = row_few a.good in rw a.weight_is (record { negative = few 0; first = few 1; second = few 2; third = few 3 })

-- a header of a judged record tells what others of it add
pub known_same : (j : List ℕ) → Bytes j → (at header : ℕ) (s : Shape) → (node_here j at ≡ true) × (s ≡ shape_at j at) → header ≡ le 6 j at → Known j (record { header = header; size = s.size; weight = weights_for s.kind s.node })
known_same j bytes at header s judged e =
    let size : (10 ≤ s.size) × (s.size ≤ 18) = rw judged.1 (good_size_lem j at judged.0) in
    record {
      large = size.0;
      small = size.1;
      once = adds_few j at _ _ (node_adds j at s judged);
      here = λ i fits h. let same = same_shape j bytes at judged.0 i (rw judged.1 at fits) (h ∙ e) in node_adds j i s (same.0, judged.1 ∙ same.1);
    }

-- ---- packed counts

-- counts that fit into their bits come out as they went in
pub unpacked_packed : (c : Counts) → c.deletes < count_limit → c.updates < count_limit → c.additions < count_limit → unpacked (packed c) ≡ c
unpacked_packed c p q r =
    let deletes : count 1 (packed c) ≡ c.deletes = omega arith in
    let updates : count 2 (packed c) ≡ c.updates = omega arith in
    let top : packed c / largest_weight ≡ c.additions = omega arith in
    let additions : count 3 (packed c) ≡ c.additions = rw top (omega arith) in
    rw (deletes, updates, additions)

-- those of a journal joined of two are the sum
pub packed_join : (a b : List ℕ) → well_formed a ≡ true → packed_of (a ++ b) ≡ plus (packed_of a) (packed_of b)
unfolding packed_of
packed_join a b formed = rows_same (λ n. packed (counts_of (row n) (a ++ b))) (λ n. packed (counts_of (row n) a) + packed (counts_of (row n) b)) (λ n. omega (arith, count_join a b formed (row n) 1, count_join a b formed (row n) 2, count_join a b formed (row n) 3))

pub packed_none : packed_of [] ≡ no_packed
unfolding packed_of entries records records_from chosen_by
packed_none = refl

-- Laws for the weights table: what one weight is, and the table as it is filled.
use Rattle.std.proofs.Common.{◌≡◌, ℕ, ◌+◌, ◌-◌, ◌*◌, ◌/◌, ◌%◌, ◌^◌, ◌<◌, ◌≤◌, Bool, true, false, cond, eqb, List, length, get_or, drop, set, sym, ap, ◌∙◌, mul-zero, mul-one, arith, length-set, get_or-set_other, get_or-set_same, below_more, eqb-true}
use borrow.Author.Tests.{eqb-false}
use Rattle.words.specs.Numbers.{le}
use Rattle.records.specs.Records.{kind_of}
use Rattle.journal.specs.declared.judging.Shape.{Shape}
use Rattle.journal.specs.Journal.{largest_type}
use Rattle.journal.specs.Scope.{holds, Selection}
use Rattle.journal.specs.Marks.{count_limit}
use Rattle.journal.specs.Terms.{IsKind, node_here, shape_at, asked}
use Rattle.journal.specs.Inner.Terms.{length_for, is_unit}
use Rattle.scanning.specs.Inner.Terms.{UnitHere, weight_of, Weights, Weighed}
use Rattle.words.proofs.Choice.{decide}
use Rattle.journal.proofs.Opcodes.{kind_4, bit_chooses}
use Rattle.journal.proofs.RecordLaws.{good_length, good_kind, good_node_lem, unit_node, asked_unit}

-- what `weight` computes, from the set's bit of the opcode
pub weight_is : (set op w : ℕ) → w ≡ count_limit ^ (op - 1) * (set / 2 ^ (op - 1) % 2) → w ≡ cond (holds set op) (count_limit ^ (op - 1)) 0
weight_is set op w e = e ∙ bit_chooses (count_limit ^ (op - 1)) (set / 2 ^ (op - 1) % 2) (omega arith)

-- a weight times 1 or 0
pub times_bit : (w : ℕ) (t : Bool) → w * cond t 1 0 ≡ cond t w 0
times_bit w true = mul-one w
times_bit w false = mul-zero w

pub times_bit_le : (w : ℕ) (t : Bool) → w * cond t 1 0 ≤ w
times_bit_le w true = omega (arith, mul-one w)
times_bit_le w false = omega (arith, mul-zero w)

-- the table, filled below a place: the invariant of `weights_of`
pub record Filled (sets table : List ℕ) (i : ℕ) : Type 0 where
  pub size : length table ≡ 160
  pub low : 32 ≤ i
  pub high : i ≤ 160
  pub each : (k : ℕ) → k < i → 32 ≤ k → get_or table k 0 ≡ weight_of sets (k / 32) (k % 32)

-- a turn of its loop
pub filled_next : (sets table : List ℕ) (i w : ℕ) → Filled sets table i → i < 160 → w ≡ weight_of sets (i / 32) (i % 32) → Filled sets (set table i w) (i + 1)
filled_next sets table i w f h e =
    record {
      size = simp length-set f.size;
      low = omega arith;
      high = omega arith;
      each = below_more (λ (k : ℕ). 32 ≤ k → get_or (set table i w) k 0 ≡ weight_of sets (k / 32) (k % 32)) i
          (λ k l g. get_or-set_other table i k w 0 (λ q. omega arith) ∙ f.each k l g)
          (λ g. get_or-set_same table i w 0 (omega arith) ∙ e);
    }

-- the table's entry of a good record
weight_at : (sets table : List ℕ) (kind node : ℕ) → Weights sets table → IsKind kind → node ≤ largest_type → get_or table (32 * kind + node) 0 ≡ weight_of sets kind node
weight_at sets table kind node w o n =
    let k : (32 * kind + node) / 32 ≡ kind = omega arith in
    let m : (32 * kind + node) % 32 ≡ node = omega arith in
    rw (k, m) at (w (32 * kind + node) (omega arith) (omega arith))

-- the table's weight of a good record's shape
pub shape_weight : (sets j table : List ℕ) (at : ℕ) (s : Shape) → Weights sets table → node_here j at ≡ true → s ≡ shape_at j at
    → get_or table (32 * s.kind + s.node) 0 ≡ weight_of sets (kind_of (drop at j)) (le 2 j (at + 4))
shape_weight sets j table at s t g e = rw e (weight_at sets table (kind_of (drop at j)) (le 2 j (at + 4)) t (good_kind j at g) (good_node_lem j at g))

-- a good record with the weight that it adds
pub weighed : (sel : Selection) (j table : List ℕ) (at : ℕ) (s : Shape) (w : ℕ) → Weights sel.sets table → (node_here j at ≡ true) × (s ≡ shape_at j at)
    → w ≡ asked sel.units j at (get_or table (32 * s.kind + s.node) 0) → Weighed sel j at s.size w
weighed sel j table at s w t g e =
    record {
      size_is = sym (ap (λ (x : Shape). x.size) g.1);
      good = g.0;
      weight_is = e ∙ ap (asked sel.units j at) (shape_weight sel.sets j table at s t g.0 g.1);
    }

-- a record of kind 4, where its two node types have the same weight
module _ (sel : Selection) (j table : List ℕ) (t : Weights sel.sets table) (same : get_or table 144 0 ≡ get_or table 143 0) where
  either : (node : ℕ) → 15 ≤ node → node ≤ 16 → get_or table 143 0 ≡ weight_of sel.sets 4 node
  either node p q = decide (eqb node 15)
      (λ e. rw (eqb-true node 15 e) (weight_at sel.sets table 4 15 t kind_4 (omega arith)))
      (λ e. let n = eqb-false node 15 e in let last : node ≡ 16 = omega arith in rw last (sym same ∙ weight_at sel.sets table 4 16 t kind_4 (omega arith)))

  pub unit_weighed : (at hit : ℕ) → UnitHere j at → hit ≡ cond (is_unit sel.units (le 8 j (at + 6))) 1 0 → Weighed sel j at 18 (get_or table 143 0 * hit)
  unit_weighed at hit u e =
      let weight = either (le 2 j (at + 4)) (unit_node j at u.good u.kind_is) (good_node_lem j at u.good) in
      record {
        size_is = good_length j at u.good ∙ ap (λ (k : ℕ). length_for k + 2) u.kind_is;
        good = u.good;
        weight_is = rw (u.kind_is, ← weight, asked_unit j at u.good sel.units (get_or table 143 0) u.kind_is, e) (times_bit (get_or table 143 0) (is_unit sel.units (le 8 j (at + 6))));
      }

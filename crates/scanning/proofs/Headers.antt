-- The header of a good record tells where others of its size and weight stand.
use Rattle.std.proofs.Common.{◌≡◌, ℕ, ◌+◌, ◌-◌, ◌*◌, ◌/◌, ◌%◌, ◌≤◌, true, ◌&&◌, eqb, leb, List, length, get_or, drop, sym, refl, ap, ◌∙◌, add_assoc, arith, eqb-true, le-leb}
use Rattle.words.specs.Numbers.{Bytes, le}
use Rattle.words.proofs.Numbers.{le_split, le_below}
use Rattle.records.specs.Records.{length_of, kind_of, size_of}
use Rattle.records.proofs.Steps.{length_at, kind_at}
use Rattle.scanning.specs.declared.stride.Same.{Same}
use Rattle.journal.specs.declared.judging.Shape.{Shape}
use Rattle.journal.specs.Journal.{good_frame}
use Rattle.journal.specs.Scope.{Selection}
use Rattle.journal.specs.Terms.{node_here, shape_at}
use Rattle.journal.specs.Inner.Terms.{good_at}
use Rattle.scanning.specs.Inner.Terms.{UnitHere, weight_of, Weighed, Known}
use Rattle.words.proofs.Choice.{and_left, and_right}
use Rattle.journal.proofs.Opcodes.{kind_opcode}
use Rattle.journal.proofs.RecordLaws.{good_read, good_size_lem, good_kind, asked_other}
use Rattle.scanning.proofs.Weighing.{weight_light}

-- a record of kind 4 is good where it fits
pub unit_good : (left node : ℕ) → 18 ≤ left → 15 ≤ node → node ≤ 16 → good_at left 16 4 node ≡ true
unfolding good_frame
unit_good left node h p q = rw (le-leb 18 left h, le-leb 15 node p, le-leb node 16 q)

-- the same record is good wherever it fits
pub good_again : (left left' len kind node : ℕ) → good_at left len kind node ≡ true → len + 2 ≤ left' → good_at left' len kind node ≡ true
good_again left left' len kind node e h = rw (le-leb (len + 2) left' h) (and_right (leb (len + 2) left) _ e)

-- numbers of two bytes and the rest behind them are equal where the whole is
module _ (j : List ℕ) (bytes : Bytes j) (w at i : ℕ) (h : le (2 + w) j i ≡ le (2 + w) j at) where
  split_two : le 2 j i + 0x1_0000 * le w j (i + 2) ≡ le 2 j at + 0x1_0000 * le w j (at + 2)
  split_two = sym (le_split 2 w j i) ∙ h ∙ le_split 2 w j at

  behind_two : le w j (i + 2) ≡ le w j (at + 2)
  behind_two = omega (arith, split_two, le_below j bytes 2 i, le_below j bytes 2 at)

  first_two : le 2 j i ≡ le 2 j at
  first_two = omega (arith, split_two, behind_two)

-- wherever the header of a good record stands and its size fits, there is one of its size, kind and node type
pub same_shape : (j : List ℕ) (bytes : Bytes j) (at : ℕ) → node_here j at ≡ true → (i : ℕ) → i + size_of (drop at j) ≤ length j → le 6 j i ≡ le 6 j at → (node_here j i ≡ true) × (shape_at j at ≡ shape_at j i)
same_shape j bytes at good i r h =
    let four = behind_two j bytes 4 at i h in
    let len : length_of (drop at j) ≡ length_of (drop i j) = length_at j at ∙ sym (length_at j i ∙ first_two j bytes 4 at i h) in
    let kind : kind_of (drop at j) ≡ kind_of (drop i j) = kind_at j at ∙ sym (kind_at j i ∙ first_two j bytes 2 (at + 2) (i + 2) four) in
    let node : le 2 j (at + 4) ≡ le 2 j (i + 4) = ap (le 2 j) (sym (add_assoc at 2 2)) ∙ sym (behind_two j bytes 2 (at + 2) (i + 2) four) ∙ ap (le 2 j) (add_assoc i 2 2) in
    let here = good_again (length j - at) (length j - i) (length_of (drop at j)) (kind_of (drop at j)) (le 2 j (at + 4)) (sym (good_read j at _ _ _ refl refl refl) ∙ good) (omega arith) in
    (good_read j i _ _ _ len kind node ∙ here, rw (len, kind, node))

-- and so of its weight
module _ (sel : Selection) (j : List ℕ) (bytes : Bytes j) (at : ℕ) (good : node_here j at ≡ true) (other : kind_of (drop at j) ≡ 4 → ⊥) where
  again : (i : ℕ) → i + size_of (drop at j) ≤ length j → le 6 j i ≡ le 6 j at → Weighed sel j i (size_of (drop at j)) (weight_of sel.sets (kind_of (drop at j)) (le 2 j (at + 4)))
  again i r h =
      let same = same_shape j bytes at good i r h in
      let kind : kind_of (drop at j) ≡ kind_of (drop i j) = ap (λ (s : Shape). s.kind) same.1 in
      let node : le 2 j (at + 4) ≡ le 2 j (i + 4) = ap (λ (s : Shape). s.node) same.1 in
      record {
        size_is = sym (ap (λ (s : Shape). s.size) same.1);
        good = same.0;
        weight_is = rw (kind, node) (sym (asked_other j i same.0 sel.units _ (λ q. other (kind ∙ q))));
      }

  pub known : (s : Same) → s.header ≡ le 6 j at → s.size ≡ size_of (drop at j) → s.weight ≡ weight_of sel.sets (kind_of (drop at j)) (le 2 j (at + 4)) → Known sel j s
  known s p q r =
      let size = good_size_lem j at good in
      let light = weight_light (get_or sel.sets (le 2 j (at + 4)) 0) _ (kind_opcode (kind_of (drop at j)) (good_kind j at good)) in
      record { large = omega arith; small = omega arith; narrow = rw r light.1; here = rw (p, q, r) again }

-- a record of kind 4, by what the eight bytes from its length on are more than those of node type 15
pub unit_here : (j : List ℕ) (bytes : Bytes j) (at w : ℕ) → at + 18 ≤ length j → (w + 0xf_0004_0010) % 0x1_0000_0000_0000_0000 ≡ le 8 j at
    → w % 0x1_0000_0000_0000 - w % 0x1_0000_0000_0000 / 0x1_0000_0000 % 2 * 0x1_0000_0000 ≡ 0 → UnitHere j at
unit_here j bytes at w fits e none =
    let low : w % 0x1_0000_0000_0000 % 0x1_0000_0000 ≡ 0 = omega arith in
    let small : w % 0x1_0000_0000_0000 ≤ 0x1_0000_0000 = omega arith in
    let six : le 6 j at ≡ w % 0x1_0000_0000_0000 + 0xf_0004_0010 = omega (arith, e, le_split 6 2 j at, le_below j bytes 6 at) in
    let two = le_split 2 4 j at in
    let four = le_split 2 2 j (at + 2) in
    let place : le 2 j (at + 2 + 2) ≡ le 2 j (at + 4) = ap (le 2 j) (add_assoc at 2 2) in
    let a = le_below j bytes 2 at in
    let b = le_below j bytes 2 (at + 2) in
    let len : length_of (drop at j) ≡ 16 = length_at j at ∙ omega arith in
    let kind : kind_of (drop at j) ≡ 4 = kind_at j at ∙ omega arith in
    let first : 15 ≤ le 2 j (at + 4) = omega arith in
    let last : le 2 j (at + 4) ≤ 16 = omega arith in
    record { good = good_read j at _ _ _ (sym len) (sym kind) refl ∙ unit_good (length j - at) (le 2 j (at + 4)) (omega arith) first last; kind_is = kind }

-- four equal headers
pub four_equal : (a b c d h : ℕ) → (eqb a h && (eqb b h && (eqb c h && eqb d h))) ≡ true → (a ≡ h) × (b ≡ h) × (c ≡ h) × (d ≡ h)
four_equal a b c d h t =
    let u = and_right (eqb a h) _ t in
    let v = and_right (eqb b h) _ u in
    (eqb-true a h (and_left _ _ t), eqb-true b h (and_left _ _ u), eqb-true c h (and_left _ _ v), eqb-true d h (and_right (eqb c h) _ v))

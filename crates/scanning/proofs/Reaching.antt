-- A scan going on: past a record, past two of kind 4, past four of the same header, at a bad record, at the end.
use Rattle.std.proofs.Common.{◌≡◌, ℕ, ◌+◌, ◌*◌, ◌/◌, ◌%◌, ◌<◌, ◌≤◌, true, false, cond, Some, None, List, length, get_or, drop, sym, refl, ap, ◌∙◌, add-zero, mod-eq_of_lt, mul-add, div-one, arith}
use native.Mathlib.Nat.{div-div-eq-div-mul}
use Rattle.words.specs.Numbers.{le}
use Rattle.records.specs.Records.{size_of, records, all_good, size_limit}
use Rattle.records.proofs.Choosing.{before_step, before_none, before_all}
use Rattle.records.proofs.Steps.{good_step, bad_step, none_good, formed, not_formed}
use Rattle.journal.specs.Scope.{Selection}
use Rattle.journal.specs.declared.judging.Shape.{Shape}
use Rattle.journal.specs.declared.marks.Mark.{Mark}
use Rattle.scanning.specs.declared.stride.Same.{Same}
use Rattle.journal.specs.Journal.{good_record, well_formed, IsOpcode, entries}
use Rattle.journal.specs.Reportable.{operation, reports, chosen, judgement_of}
use Rattle.journal.specs.Marks.{count_limit, count}
use Rattle.journal.specs.Holding.{good_here, property_here}
use Rattle.journal.specs.Terms.{node_here, shape_at, asked}
use Rattle.journal.specs.Inner.Terms.{is_unit, Before}
use Rattle.scanning.specs.Inner.Terms.{UnitHere, packed_limit, largest_weight, Reached, Weights, Weighed, four_headed, Known, unpacked}
use Rattle.journal.proofs.Opcodes.{code_1, code_2, code_3, each-code}
use Rattle.journal.proofs.Entries.{each_entry}
use Rattle.scanning.proofs.Weighing.{weighed_size, weighed_fits, weighed_light, weighed_adds}
use Rattle.scanning.proofs.Headers.{four_equal}
use Rattle.journal.proofs.GoodLaws.{node_good, property_good, property_passed}
use Rattle.journal.proofs.Sizes.{sized_here}
use Rattle.scanning.proofs.WeightLaws.{weighed, unit_weighed}

-- ---- packed counts

-- the lowest 21 bits of a sum, and the rest, where the lowest do not pass their width
digit_sum : (p q : ℕ) → p % count_limit + q % count_limit < count_limit → ((p + q) % count_limit ≡ p % count_limit + q % count_limit) × ((p + q) / count_limit ≡ p / count_limit + q / count_limit)
digit_sum p q h = (omega arith, omega arith)

third : (p : ℕ) → p / largest_weight ≡ p / count_limit / count_limit
third p = sym (div-div-eq-div-mul p count_limit count_limit)

-- a sum of packed counts counts the sums, where no count passes its 21 bits
module _ (p q : ℕ) (a : count 1 p + count 1 q < count_limit) (b : count 2 p + count 2 q < count_limit) (c : count 3 p + count 3 q < count_limit) where
  low_bits : p % count_limit + q % count_limit < count_limit
  low_bits = rw (div-one p, div-one q) at a

  count_first : count 1 (p + q) ≡ count 1 p + count 1 q
  count_first = rw (div-one (p + q), div-one p, div-one q) (digit_sum p q low_bits).0

  rest_first : (p + q) / count_limit ≡ p / count_limit + q / count_limit
  rest_first = (digit_sum p q low_bits).1

  count_second : count 2 (p + q) ≡ count 2 p + count 2 q
  count_second = rw rest_first (digit_sum (p / count_limit) (q / count_limit) b).0

  rest_second : (p + q) / count_limit / count_limit ≡ p / count_limit / count_limit + q / count_limit / count_limit
  rest_second = rw rest_first (digit_sum (p / count_limit) (q / count_limit) b).1

  count_third : count 3 (p + q) ≡ count 3 p + count 3 q
  count_third = rw (third (p + q), third p, third q, rest_second) (digit_sum (p / count_limit / count_limit) (q / count_limit / count_limit) (rw (third p, third q) at c)).0

  pub count_sum_lem : (code : ℕ) → IsOpcode code → count code (p + q) ≡ count code p + count code q
  count_sum_lem = each-code (λ (k : ℕ). count k (p + q) ≡ count k p + count k q) count_first count_second count_third

-- packed counts of which the highest is small have room for one operation more
packed_more : (p w n : ℕ) → p < packed_limit → count 3 p ≤ n → n ≤ size_limit → w ≤ largest_weight → p + w < packed_limit
packed_more p w n h c l k =
    let top : p / largest_weight < count_limit = omega arith in
    let same : count 3 p ≡ p / largest_weight = mod-eq_of_lt top in
    let low : p / largest_weight ≤ size_limit = omega arith in
    sum p w (p / largest_weight) low (omega arith) k
  where
    sum : (p w x : ℕ) → x ≤ size_limit → p < (x + 1) * largest_weight → w ≤ largest_weight → p + w < packed_limit
    sum p w x a b c = omega arith

abbrev pub position : ℕ → ℕ → Mark
position at counts = record { at = at; counts = counts }

pub reached_none : (sel : Selection) (j : List ℕ) → Reached sel j (position 0 0)
reached_none sel j =
    let none : (code : ℕ) → Before sel j 0 code 0 = λ code. before_none (reports sel code) operation each_entry j in
    record {
      inside = omega arith;
      good = refl;
      before = each-code (λ (k : ℕ). Before sel j 0 k (count k 0)) (none 1) (none 2) (none 3);
      few = omega arith;
      packed = omega arith;
    }

module _ (sel : Selection) (j : List ℕ) (at counts : ℕ) (small : length j ≤ size_limit) (t : Reached sel j (position at counts)) where
  -- past a good record
  pub reached_step : (size weight : ℕ) → at < length j → Weighed sel j at size weight → Reached sel j (position (at + size) (counts + weight))
  reached_step size weight h g =
      let light = weighed_light sel j at size weight g in
      let f = t.few in
      let sums : (code : ℕ) → IsOpcode code → count code (counts + weight) ≡ count code counts + count code weight = count_sum_lem counts weight (omega arith) (omega arith) (omega arith) in
      let fits = weighed_fits sel j at size weight g in
      let large = weighed_size sel j at size weight g in
      record {
        inside = omega arith;
        good = t.good ∙ good_step good_record j at h (node_good j at g.good) ∙ ap (λ (n : ℕ). all_good good_record (records (drop (at + n) j))) g.size_is;
        before = λ code o. rw (sums code o, weighed_adds sel j at size weight g code o, ← g.size_is) (before_step (reports sel code) operation each_entry j at (count code counts) (t.before code o) h);
        few = omega (arith, sums 1 code_1, sums 2 code_2, sums 3 code_3);
        packed = packed_more counts weight at t.packed (omega arith) (omega (arith, t.inside)) light.1;
      }

  -- past a good record of a property, which adds nothing
  pub reached_property : at < length j → property_here j at ≡ true → Reached sel j (position (at + size_of (drop at j)) counts)
  reached_property h p =
      let passed = property_passed j at (omega arith) p sel in
      let size = sized_here j at (property_good j at p) in
      record {
        inside = omega (arith, size);
        good = t.good ∙ good_step good_record j at h (property_good j at p);
        before = λ code o. let b = before_step (reports sel code) operation each_entry j at (count code counts) (t.before code o) h in rw (passed code, add-zero (count code counts)) at b;
        few = omega (arith, t.few);
        packed = t.packed;
      }

  -- at a bad one
  pub reached_bad : at < length j → good_here j at ≡ false → well_formed j ≡ false
  unfolding well_formed
  reached_bad h e = not_formed size_limit good_record j (t.good ∙ bad_step good_record j at h e)

  -- at the end
  pub reached_end : length j ≤ at → Some (unpacked counts) ≡ judgement_of sel j
  unfolding judgement_of well_formed
  reached_end h =
      let all : (code : ℕ) → IsOpcode code → count code counts ≡ length (chosen sel code (entries j)) = λ code o. before_all (reports sel code) operation each_entry j at (count code counts) (t.before code o) h in
      rw (formed size_limit good_record j small (t.good ∙ none_good good_record j at h), ← all 1 code_1, ← all 2 code_2, ← all 3 code_3)

pub malformed : (sel : Selection) (j : List ℕ) → well_formed j ≡ false → None ≡ judgement_of sel j
unfolding judgement_of
malformed sel j h = rw h

-- past a record that was judged, with what it adds
pub reached_judged : (sel : Selection) (j table : List ℕ) (at counts : ℕ) → length j ≤ size_limit → Weights sel.sets table → Reached sel j (position at counts) → (s : Shape) (w : ℕ) → at < length j
    → (node_here j at ≡ true) × (s ≡ shape_at j at) → w ≡ asked sel.units j at (get_or table (32 * s.kind + s.node) 0) → Reached sel j (position (at + s.size) (counts + w))
reached_judged sel j table at counts small weights t s w h g e = reached_step sel j at counts small t s.size w h (weighed sel j table at s w weights g e)

-- past two records of kind 4, where their node types have the same weight
pub reached_units : (sel : Selection) (j table : List ℕ) → length j ≤ size_limit → Weights sel.sets table → get_or table 144 0 ≡ get_or table 143 0 → (at counts hits a b : ℕ) → at + 36 ≤ length j
    → UnitHere j at × UnitHere j (at + 18) → a ≡ cond (is_unit sel.units (le 8 j (at + 6))) 1 0 → b ≡ cond (is_unit sel.units (le 8 j (at + 18 + 6))) 1 0
    → Reached sel j (position at (counts + get_or table 143 0 * hits)) → Reached sel j (position (at + 36) (counts + get_or table 143 0 * (hits + (a + b))))
reached_units sel j table small weights same at counts hits a b fits u p q t =
    let w = get_or table 143 0 in
    let t₁ = reached_step sel j at _ small t 18 (w * a) (omega arith) (unit_weighed sel j table weights same at a u.0 p) in
    let t₂ = reached_step sel j (at + 18) _ small t₁ 18 (w * b) (omega arith) (unit_weighed sel j table weights same (at + 18) b u.1 q) in
    let place : at + 18 + 18 ≡ at + 36 = omega arith in
    let sum : counts + w * hits + w * a + w * b ≡ counts + w * (hits + (a + b)) = omega (arith, mul-add w hits (a + b), mul-add w a b) in
    rw (place, sum) at t₂

-- past four records of a known header
module _ (sel : Selection) (j : List ℕ) (s : Same) (small : length j ≤ size_limit) (k : Known sel j s) where
  abbrev size : ℕ
  size = s.size

  abbrev weight : ℕ
  weight = s.weight

  reached_same : (at counts : ℕ) → at + size ≤ length j → le 6 j at ≡ s.header → Reached sel j (position at counts) → Reached sel j (position (at + size) (counts + weight))
  reached_same at counts r e t = reached_step sel j at counts small t size weight (omega (arith, k.large)) (k.here at r e)

  pub reached_four : (at counts : ℕ) → at + 4 * size ≤ length j → four_headed j s.header size at ≡ true → Reached sel j (position at counts) → Reached sel j
      (position (at + 4 * size) (counts + 4 * weight))
  reached_four at counts r e t =
      let q = four_equal (le 6 j at) (le 6 j (at + size)) (le 6 j (at + 2 * size)) (le 6 j (at + 3 * size)) s.header e in
      let s₂ : at + size + size ≡ at + 2 * size = omega arith in
      let s₃ : at + size + size + size ≡ at + 3 * size = omega arith in
      let s₄ : at + size + size + size + size ≡ at + 4 * size = omega arith in
      let w₄ : counts + weight + weight + weight + weight ≡ counts + 4 * weight = omega arith in
      let t₁ = reached_same at counts (omega arith) q.0 t in
      let t₂ = reached_same (at + size) _ (omega arith) q.1 t₁ in
      let t₃ = reached_same (at + size + size) _ (omega arith) (ap (le 6 j) s₂ ∙ q.2) t₂ in
      let t₄ = reached_same (at + size + size + size) _ (omega arith) (ap (le 6 j) s₃ ∙ q.3) t₃ in
      rw (s₄, w₄) at t₄

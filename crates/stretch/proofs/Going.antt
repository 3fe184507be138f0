-- Stretches that go on: nowhere, past a record, past four of a known header, and one stretch behind another.
use mathlib.Core.Path.{◌≡◌, ap, ◌∙◌}
use mathlib.Core.Bool.{true}
use mathlib.Core.List.{List, [], ◌++◌}
use Prim.Native.Nat.{ℕ, ◌+◌, ◌-◌, ◌*◌, ◌≤◌}
use native.Mathlib.Nat.{add_assoc, add-zero, one-mul, mul-le-mul_left}
use native.Mathlib.Omega.{arith}
use lib.ListN.{length, take, drop, length-append, length-take}
use lib.Seq.{take-add, drop-drop}
use Rattle.words.specs.Numbers.{le}
use Rattle.words.proofs.Choice.{and_left}
use Rattle.records.specs.Records.{records, first_record, whole, all_good, size_limit}
use Rattle.records.proofs.Steps.{formed}
use Rattle.records.proofs.Whole.{records_none}
use Rattle.records.proofs.Joining.{records_join, good_join, one_record_lem, one_good}
use Rattle.journal.specs.declared.judging.Shape.{Shape}
use Rattle.journal.specs.Journal.{largest_type, good_record, well_formed}
use Rattle.journal.specs.Terms.{IsKind, node_here, shape_at}
use Rattle.journal.proofs.RecordLaws.{good_kind, good_node_lem}
use Rattle.journal.proofs.Sizes.{sized_here}
use Rattle.scanning.specs.Inner.Terms.{largest_weight, four_headed}
use Rattle.scanning.proofs.Headers.{four_equal}
use Rattle.stretch.specs.declared.packed.Packed.{Packed}
use Rattle.stretch.specs.declared.steps.Stretch.{Stretch}
use Rattle.stretch.specs.declared.steps.Same.{Same}
use Rattle.stretch.specs.Packed.{packed_of, no_packed, plus}
use Rattle.stretch.specs.Inner.Terms.{times, Narrow}
use Rattle.stretch.specs.Inner.Stretches.{between, nothing, Goes, Few, Light}
use Rattle.stretch.specs.Inner.Terms.{grown_by, Grows, Adds, Known}
use Rattle.stretch.proofs.Adding.{adds_few, packed_join, packed_none}

-- ---- packed counts

plus_none : (a : Packed) → plus a no_packed ≡ a
plus_none a = simp add-zero

plus_assoc : (a b c : Packed) → plus (plus a b) c ≡ plus a (plus b c)
plus_assoc a b c = simp add_assoc

times_one : (a : Packed) → times 1 a ≡ a
times_one a = simp one-mul

-- so many more of at most one operation each, in a row and in every row
row_more : (n k c w : ℕ) → c ≤ n * largest_weight → w ≤ 1 * largest_weight → c + k * w ≤ (n + k) * largest_weight
row_more n k c w p q = omega (arith, mul-le-mul_left k q)

few_more : (n k : ℕ) (c w : Packed) → Few n c → Few 1 w → Few (n + k) (plus c (times k w))
few_more n k c w p q = record {
  negative = row_more n k _ _ p.negative q.negative;
  first = row_more n k _ _ p.first q.first;
  second = row_more n k _ _ p.second q.second;
  third = row_more n k _ _ p.third q.third;
}

few_narrow : (n : ℕ) (c : Packed) → n ≤ size_limit → Few n c → Narrow c
few_narrow n c h p = omega arith

-- what `grown` adds is a number of 64 bits
pub grows_narrow : (s : Stretch) (n size : ℕ) (w : Packed) → Grows s n size w → Narrow (plus s.counts (times n w))
grows_narrow s n size w g = few_narrow (s.records + n) _ g.number (few_more s.records n s.counts w g.few g.once)

-- ---- nowhere, and one stretch behind another

module _ (j : List ℕ) where
  between_none : (a : ℕ) → between j a a ≡ []
  between_none a = let z : a - a ≡ 0 = omega arith in rw z

  between_join : (a b c : ℕ) → a ≤ b → b ≤ c → between j a c ≡ between j a b ++ between j b c
  between_join a b c p q =
      let sum : c - a ≡ (b - a) + (c - b) = omega arith in
      let place : a + (b - a) ≡ b = omega arith in
      rw sum (take-add (b - a) (c - b) (drop a j) ∙ ap (λ (l : List ℕ). between j a b ++ take (c - b) l) (drop-drop (b - a) a j ∙ ap (λ (n : ℕ). drop n j) place))

  pub goes_nowhere : (s : Stretch) → Light j s → Goes j s s
  unfolding all_good
  goes_nowhere s l = record {
    onward = omega arith;
    inside = l.inside;
    good = rw (between_none s.end, records_none);
    number = rw (between_none s.end, records_none) (omega arith);
    counts = rw (between_none s.end, packed_none, plus_none s.counts);
  }

  pub goes_on : (x y z : Stretch) → Goes j x y → Goes j y z → length j ≤ size_limit → Goes j x z
  unfolding well_formed
  goes_on x y z g h small =
      let a = between j x.end y.end in
      let b = between j y.end z.end in
      let both = between_join x.end y.end z.end g.onward h.onward in
      let rs = ap records both ∙ records_join good_record a b g.good in
      let short : length a ≤ size_limit = omega (arith, length-take (y.end - x.end) (drop x.end j), g.inside) in
      record {
        onward = omega (arith, g.onward, h.onward);
        inside = h.inside;
        good = rw (rs, good_join good_record (records a) (records b), g.good, h.good);
        number = rw (rs, length-append (records a) (records b)) (omega (arith, g.number, h.number));
        counts = rw (both, packed_join a b (formed size_limit good_record a short g.good)) (h.counts ∙ rw g.counts (plus_assoc x.counts (packed_of a) (packed_of b)));
      }

  -- ---- past a record

  -- where a stretch came from one to another, and can go on
  abbrev pub Onward : Stretch → Stretch → Type 0
  Onward from s = Goes j from s × Light j s

  module _ (s : Stretch) (size : ℕ) (w : Packed) (l : Light j s) (a : Adds j s.end size w) where
    pub adds_size : (10 ≤ size) × (s.end + size ≤ length j)
    adds_size = let h = sized_here j s.end a.good in rw (← a.size_is) (omega (arith, h), h.1)

    pub grows_one : Grows s 1 size w
    grows_one = omega (arith, adds_size, adds_few j s.end size w a)

    between_one : between j s.end (s.end + 1 * size) ≡ first_record (drop s.end j)
    between_one = let n : s.end + 1 * size - s.end ≡ size = omega arith in rw (n, a.size_is)

    goes_one : Goes j s (grown_by s 1 size w)
    goes_one = record {
      onward = omega arith;
      inside = omega (arith, adds_size);
      good = rw between_one (one_good (first_record (drop s.end j)) good_record a.good);
      number = rw (between_one, one_record_lem (first_record (drop s.end j)) (and_left (whole (first_record (drop s.end j))) _ a.good));
      counts = rw between_one (ap (plus s.counts) (times_one w ∙ a.weight_is));
    }

    light_one : Light j (grown_by s 1 size w)
    light_one = omega (arith, adds_size, few_more s.records 1 s.counts w l.few (adds_few j s.end size w a))

  pub onward_one : (from s : Stretch) (size : ℕ) (w : Packed) → Onward from s → Adds j s.end size w → Onward from (grown_by s 1 size w)
  onward_one from s size w o a = (goes_on from s _ o.0 (goes_one s size w o.1 a) o.1.small, light_one s size w o.1 a)

  -- ---- past four records of a known header

  grown_four : (s : Stretch) (size : ℕ) (w : Packed) → grown_by (grown_by (grown_by (grown_by s 1 size w) 1 size w) 1 size w) 1 size w ≡ grown_by s 4 size w
  grown_four s size w =
      let four : (a b : ℕ) → a + 1 * b + 1 * b + 1 * b + 1 * b ≡ a + 4 * b = λ a b. omega arith in
      let number : s.records + 1 + 1 + 1 + 1 ≡ s.records + 4 = omega arith in
      let c = s.counts in
      rw (number, four s.end size, four c.negative w.negative, four c.first w.first, four c.second w.second, four c.third w.third)

  module _ (same : Same) (k : Known j same) where
    abbrev size : ℕ
    size = same.size

    abbrev w : Packed
    w = same.weight

    pub grows_four : (s : Stretch) → Light j s → s.end + 4 * size ≤ length j → Grows s 4 size w
    grows_four s l h = omega arith

    onward_same : (from s : Stretch) → s.end + size ≤ length j → le 6 j s.end ≡ same.header → Onward from s → Onward from (grown_by s 1 size w)
    onward_same from s h e o = onward_one from s size w o (k.here s.end h e)

    pub onward_four : (from s : Stretch) → s.end + 4 * size ≤ length j → four_headed j same.header size s.end ≡ true → Onward from s → Onward from (grown_by s 4 size w)
    onward_four from s h e o =
        let at = s.end in
        let q = four_equal (le 6 j at) (le 6 j (at + size)) (le 6 j (at + 2 * size)) (le 6 j (at + 3 * size)) same.header e in
        let p₁ : at + 1 * size ≡ at + size = omega arith in
        let p₂ : at + 1 * size + 1 * size ≡ at + 2 * size = omega arith in
        let p₃ : at + 1 * size + 1 * size + 1 * size ≡ at + 3 * size = omega arith in
        let o₁ = onward_same from s (omega arith) q.0 o in
        let o₂ = onward_same from _ (omega arith) (ap (le 6 j) p₁ ∙ q.1) o₁ in
        let o₃ = onward_same from _ (omega arith) (ap (le 6 j) p₂ ∙ q.2) o₂ in
        let o₄ = onward_same from _ (omega arith) (ap (le 6 j) p₃ ∙ q.3) o₃ in
        rw (grown_four s size w) at o₄

-- ---- the bounds of a judged record's kind and node type, for `weights_for`

pub shape_known : (j : List ℕ) (at : ℕ) (s : Shape) → (node_here j at ≡ true) × (s ≡ shape_at j at) → IsKind s.kind × (s.node ≤ largest_type)
shape_known j at s g = rw g.1 (good_kind j at g.0, good_node_lem j at g.0)

-- ---- the start

pub light_nothing : (j : List ℕ) → length j ≤ size_limit → Light j nothing
light_nothing j h = omega arith

-- Counting a journal anew by the stretch of its good records, sums that fit, and bytes that are one record.
use mathlib.Core.Path.{◌≡◌, sym, ap, ◌∙◌}
use mathlib.Core.Bool.{true, false, cond, true≢false}
use mathlib.Core.List.{List}
use Prim.Native.Nat.{ℕ, ◌+◌, ◌-◌, ◌<◌, ◌≤◌}
use native.Mathlib.Nat.{zero-add}
use native.Mathlib.Omega.{arith}
use lib.Dec.{leb}
use lib.ListN.{length, take, drop, take-append-drop}
use lib.Seq.{take_all}
use borrow.Author.Tests.{leb-true, leb-false}
use Rattle.std.specs.Prelude.{Some, None}
use Rattle.words.proofs.Choice.{decide, and_left, and_right}
use Rattle.records.specs.Records.{size_of, records, all_good, whole, size_limit}
use Rattle.records.proofs.Steps.{bad_step, formed, not_formed, records-step, records_few}
use Rattle.records.proofs.Whole.{records_front}
use Rattle.records.proofs.Joining.{records_join, good_join, one_record_lem}
use Rattle.journal.specs.declared.counts.Counts.{Counts}
use Rattle.journal.specs.Journal.{good_record, well_formed}
use Rattle.journal.specs.Reportable.{counts_of}
use Rattle.journal.specs.Holding.{good_here}
use Rattle.journal.proofs.Entries.{operations_few}
use Rattle.journal.proofs.Walks.{all_good_lem, walked}
use Rattle.journal.proofs.Joins.{one_formed}
use Rattle.scanning.specs.Inner.Terms.{unpacked}
use Rattle.stretch.specs.declared.packed.Packed.{Packed}
use Rattle.stretch.specs.declared.steps.Stretch.{Stretch}
use Rattle.stretch.specs.Packed.{row, packed, packed_of, no_packed, plus}
use Rattle.stretch.specs.Inner.Stretches.{between, nothing, Goes}
use Rattle.stretch.proofs.Adding.{unpacked_packed}
use Rattle.tallies.specs.declared.tallies.Tallies.{Tallies}
use Rattle.tallies.specs.declared.counting.Weighed.{Weighed}
use Rattle.tallies.specs.declared.keeping.Tallied.{Tallied}
use Rattle.tallies.specs.Tallies.{recount_of, counts_within, tallies_within}
use Rattle.tallies.specs.Inner.Weighing.{tallies_from, weighed_of, CountsFit, TalliesFit, Extends}
use Rattle.tallies.specs.Keeping.{one_record}
use Rattle.tallies.proofs.Joins.{recount_within}

-- ---- sums that fit

-- no count is above a limit
pub record Few (limit : ℕ) (c : Counts) : Type 0 where
  pub deletes : c.deletes ≤ limit
  pub updates : c.updates ≤ limit
  pub additions : c.additions ≤ limit

pub record EachFew (limit : ℕ) (t : Tallies) : Type 0 where
  pub negative : Few limit t.negative
  pub first : Few limit t.first
  pub second : Few limit t.second
  pub third : Few limit t.third

counts_few : (limit : ℕ) (c : Counts) → counts_within limit c ≡ true → Few limit c
counts_few limit c e =
    let later = and_right (leb c.deletes limit) _ e in
    record { deletes = leb-true _ _ (and_left _ _ e); updates = leb-true _ _ (and_left _ _ later); additions = leb-true _ _ (and_right (leb c.updates limit) _ later) }

pub tallies_few : (limit : ℕ) (t : Tallies) → tallies_within limit t ≡ true → EachFew limit t
unfolding tallies_within
tallies_few limit t e =
    let second = and_right (counts_within limit t.negative) _ e in
    let third = and_right (counts_within limit t.first) _ second in
    record {
      negative = counts_few limit _ (and_left _ _ e);
      first = counts_few limit _ (and_left _ _ second);
      second = counts_few limit _ (and_left _ _ third);
      third = counts_few limit _ (and_right (counts_within limit t.second) _ third);
    }

pub recount_few : (j : List ℕ) → EachFew (length j) (recount_of j)
recount_few j = tallies_few (length j) (recount_of j) (recount_within (length j) j (omega arith))

module _ (m n : ℕ) (h : m + n < 0x1_0000_0000_0000_0000) where
  counts_fit : (a b : Counts) → Few m a → Few n b → CountsFit a b
  counts_fit a b p q = record { deletes = omega arith; updates = omega arith; additions = omega arith }

  pub tallies_fit : (a b : Tallies) → EachFew m a → EachFew n b → TalliesFit a b
  tallies_fit a b p q = record {
    negative = counts_fit _ _ p.negative q.negative;
    first = counts_fit _ _ p.first q.first;
    second = counts_fit _ _ p.second q.second;
    third = counts_fit _ _ p.third q.third;
  }

-- ---- packed counts

-- each has 21 bits
unpacked_few : (n : ℕ) → Few 2_097_152 (unpacked n)
unpacked_few n = record { deletes = omega arith; updates = omega arith; additions = omega arith }

-- so what they add fits
pub extends_fit : (t : Tallied) (more : ℕ) (p : Packed) → Extends t more → TalliesFit t.tallies (tallies_from p)
extends_fit t more p e = tallies_fit t.used 2_097_152 (omega (arith, e.narrow)) _ _ (tallies_few _ _ e.within)
    (record { negative = unpacked_few _; first = unpacked_few _; second = unpacked_few _; third = unpacked_few _ })

none_plus : (p : Packed) → plus no_packed p ≡ p
none_plus p = simp zero-add

-- those of a journal are its tallies
pub packed_recount : (p : List ℕ) → length p ≤ size_limit → tallies_from (packed_of p) ≡ recount_of p
unfolding packed_of recount_of
packed_recount p h =
    let one : (n : ℕ) → unpacked (packed (counts_of (row n) p)) ≡ counts_of (row n) p = λ n. let few = operations_few (row n) p in unpacked_packed (counts_of (row n) p) (omega (arith, few 1)) (omega (arith, few 2)) (omega (arith, few 3)) in
    rw (one 0, one 1, one 2, one 3)

-- ---- a buffer by the stretch of its good records

pub weighed_bad : (j : List ℕ) → well_formed j ≡ false → None ≡ weighed_of j
unfolding weighed_of
weighed_bad j e = rw e

module _ (j : List ℕ) (small : length j ≤ size_limit) (s : Stretch) (g : Goes j nothing s) where
  front : between j 0 s.end ≡ take s.end j
  front = let z : s.end - 0 ≡ s.end = omega arith in rw z

  front_good : all_good good_record (records (take s.end j)) ≡ true
  front_good = ap (λ (b : List ℕ). all_good good_record (records b)) (sym front) ∙ g.good

  -- up to the end: a journal
  pub weighed_all : length j ≤ s.end → Some (record { records = s.records; tallies = tallies_from s.counts }) ≡ weighed_of j
  unfolding weighed_of well_formed
  weighed_all h =
      let all : between j 0 s.end ≡ j = front ∙ take_all s.end j h in
      let number : s.records ≡ length (records j) = g.number ∙ zero-add _ ∙ ap (λ (b : List ℕ). length (records b)) all in
      let counts : s.counts ≡ packed_of j = g.counts ∙ none_plus _ ∙ ap packed_of all in
      let good = ap (λ (b : List ℕ). all_good good_record (records b)) (sym all) ∙ g.good in
      rw (formed size_limit good_record j small good, number, counts, packed_recount j small)

  -- up to a place where no good record stands: none
  pub ends_bad : s.end < length j → good_here j s.end ≡ false → well_formed j ≡ false
  unfolding well_formed
  ends_bad h bad =
      let a = take s.end j in
      let b = drop s.end j in
      not_formed size_limit good_record j
      (ap (λ (l : List ℕ). all_good good_record (records l)) (sym (take-append-drop s.end j))
      ∙ ap (all_good good_record) (records_join good_record a b front_good)
      ∙ good_join good_record (records a) (records b)
      ∙ rw front_good (bad_step good_record j s.end h bad))

-- ---- what was weighed

-- a journal of one record is this record
sole : (j : List ℕ) → well_formed j ≡ true → length (records j) ≡ 1 → one_record j ≡ true
unfolding one_record records
sole j e n =
    let some : 0 < length j = omega (arith, n, records_few 0 j) in
    let short : length j ≤ size_of j = decide (leb (length j) (size_of j)) (leb-true _ _)
    (λ z. absurd (omega (arith, n, ap length (records_front j some), ap length (records-step j (size_of j) (leb-false (length j) (size_of j) z))))) in
    rw (take_all (size_of j) j short) at (walked j 0 some (all_good_lem j e))

module _ (j : List ℕ) (w : Weighed) (given : Some w ≡ weighed_of j) where
  -- it is a journal, and w is what it tells
  pub record Told : Type 0 where
    pub formed_claim : well_formed j ≡ true
    pub records_claim : w.records ≡ length (records j)
    pub tallies_claim : w.tallies ≡ recount_of j

  told : Told
  unfolding weighed_of
  told = decide (well_formed j)
      (λ e. let same : Some w ≡ Some (record { records = length (records j); tallies = recount_of j }) = given ∙ rw e in
      record { formed_claim = e; records_claim = cc; tallies_claim = cc })
      (λ e. let none : Some w ≡ None = given ∙ sym (weighed_bad j e) in cc)

  -- bytes that have to be one record
  pub one_weighed : w.records ≡ 1 → Some w.tallies ≡ cond (one_record j) (Some (recount_of j)) None
  one_weighed n = rw (sole j told.formed_claim (sym told.records_claim ∙ n), told.tallies_claim)

  pub more_weighed : (w.records ≡ 1 → ⊥) → None ≡ cond (one_record j) (Some (recount_of j)) None
  unfolding one_record
  more_weighed n = decide (one_record j)
      (λ o. absurd (n (told.records_claim ∙ ap length (one_record_lem j (and_left (whole j) _ o)))))
      (λ o. rw o)

module _ (j : List ℕ) (given : None ≡ weighed_of j) where
  bad : well_formed j ≡ false
  unfolding weighed_of
  bad = decide (well_formed j) (λ e. let some : None ≡ Some (record { records = length (records j); tallies = recount_of j }) = given ∙ rw e in cc) (λ e. e)

  pub one_unweighed : None ≡ cond (one_record j) (Some (recount_of j)) None
  unfolding one_record
  one_unweighed = decide (one_record j) (λ o. absurd (true≢false (sym (one_formed j o) ∙ bad))) (λ o. rw o)

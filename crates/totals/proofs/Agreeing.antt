-- Laws of consistent totals, and the claims about them.
use mathlib.Core.Path.{◌≡◌, refl, sym, ◌∙◌}
use mathlib.Core.Bool.{Bool, true, false, ◌&&◌}
use mathlib.Core.List.{List}
use Prim.Native.Nat.{ℕ, zero, suc, ◌+◌, ◌*◌, ◌/◌, ◌%◌, ◌≤◌}
use native.Mathlib.Omega.{arith}
use lib.Dec.{eqb, leb}
use Rattle.std.specs.Prelude.{sum}
use lib.ListN.{length, get_or, take, drop}
use lib.Seq.{drop-cons}
use Rattle.std.proofs.lemmas.List.Sums.{sum_by-cons}
use borrow.Author.Tests.{eqb-true, eqb-false, eq-eqb, ne_eqb, le-leb, leb-true}
use Rattle.words.proofs.Choice.{decide, and_left, and_right}
use Rattle.words.proofs.Exactly.{equal, at_most, both}
use Rattle.totals.specs.Adding.{totals_of, sums}
use Rattle.totals.specs.Consistent.{sum_from, calls_agree, words_agree, consistent}
use Rattle.totals.specs.Claims.Consistent.{ConsistentNone, ConsistentKept, ConsistentExactly, SumExactly, ConsistentClaims}
use Rattle.totals.proofs.Sums.{get_d_sums}
use Rattle.totals.proofs.Taken.{taken}

-- two equalities, each from the other
same_test : (a b c d : ℕ) → (a ≡ b → c ≡ d) → (c ≡ d → a ≡ b) → eqb a b ≡ eqb c d
same_test a b c d f g =
    decide (eqb a b)
    (λ e. e ∙ sym (eq-eqb c d (f (eqb-true a b e))))
    (λ e. e ∙ sym (ne_eqb c d (λ q. eqb-false a b e (g q))))

-- ---- a sum, figure by figure

-- the figures of a part, one after the other
pub sum_part : (fs : List ℕ) (at n : ℕ) → at + n ≤ length fs → sum (take n (drop at fs)) ≡ sum_from fs at n
unfolding sum_from
sum_part fs at zero h = refl
sum_part fs at (suc n) h = rw (drop-cons fs at 0 (omega arith), sum_by-cons (λ (x : ℕ). x), sum_part fs (suc at) n (omega arith))

-- ---- the figures agree

-- the calls of each token, a part of the figures each
module _ (fs : List ℕ) (h : length fs ≡ 35) where
  abbrev pub calls_of : ℕ → ℕ → Bool
  calls_of i at = eqb (get_or fs i 0) (sum (take 7 (drop at fs)))

  pub calls_agree_lem : calls_agree fs ≡ (calls_of 28 0 && (calls_of 29 7 && (calls_of 30 14 && calls_of 31 21)))
  unfolding calls_agree
  calls_agree_lem = rw (sum_part fs 0 7 (omega arith), sum_part fs 7 7 (omega arith), sum_part fs 14 7 (omega arith), sum_part fs 21 7 (omega arith))

-- words available as calls, where they are a multiple of 1,019
module _ (fs : List ℕ) where
  abbrev available : ℕ
  available = get_or fs 34 0

  pub words_agree_lem : available % 1019 ≡ 0 →
      words_agree fs ≡ (eqb (available / 1019) (sum_from fs 0 2) && (leb (get_or fs 32 0) (get_or fs 33 0) && leb (get_or fs 33 0) available))
  unfolding words_agree
  words_agree_lem h = rw (same_test available (1019 * sum_from fs 0 2) (available / 1019) (sum_from fs 0 2) (λ e. omega arith) (λ e. omega arith))

  pub words_not : (available % 1019 ≡ 0 → ⊥) → words_agree fs ≡ false
  unfolding words_agree
  words_not h = rw (ne_eqb available (1019 * sum_from fs 0 2) (λ e. h (omega arith)))

and_equal : (a b : ℕ) (t : Bool) → (eqb a b && t) ≡ true → (a ≡ b) × (t ≡ true)
and_equal a b t e = (eqb-true a b (and_left (eqb a b) t e), and_right (eqb a b) t e)

-- what agrees, as facts
record Agreeing (fs : List ℕ) : Type 0 where
  first : get_or fs 28 0 ≡ sum_from fs 0 7
  second : get_or fs 29 0 ≡ sum_from fs 7 7
  third : get_or fs 30 0 ≡ sum_from fs 14 7
  fourth : get_or fs 31 0 ≡ sum_from fs 21 7
  available : get_or fs 34 0 ≡ 1019 * sum_from fs 0 2
  operations : get_or fs 32 0 ≤ get_or fs 33 0
  used : get_or fs 33 0 ≤ get_or fs 34 0

module _ (fs : List ℕ) where
  agreeing : consistent (totals_of fs) ≡ true → Agreeing fs
  unfolding consistent calls_agree words_agree
  agreeing e =
      let calls = and_left (calls_agree fs) _ e in
      let first = and_equal (get_or fs 28 0) (sum_from fs 0 7) _ calls in
      let second = and_equal (get_or fs 29 0) (sum_from fs 7 7) _ first.1 in
      let third = and_equal (get_or fs 30 0) (sum_from fs 14 7) _ second.1 in
      let words = and_right (calls_agree fs) _ e in
      let available = and_equal (get_or fs 34 0) (1019 * sum_from fs 0 2) _ words in
      let few = leb (get_or fs 32 0) (get_or fs 33 0) in
      record {
        first = first.0;
        second = second.0;
        third = third.0;
        fourth = eqb-true _ _ third.1;
        available = available.0;
        operations = leb-true _ _ (and_left few _ available.1);
        used = leb-true _ _ (and_right few _ available.1);
      }

  agreed : Agreeing fs → consistent (totals_of fs) ≡ true
  unfolding consistent calls_agree words_agree
  agreed a =
      rw
      (eq-eqb _ _ a.first, eq-eqb _ _ a.second, eq-eqb _ _ a.third, eq-eqb _ _ a.fourth, eq-eqb _ _ a.available, le-leb _ _ a.operations, le-leb _ _ a.used)

-- sums of lists are added
module _ (t m : List ℕ) (h : length t ≡ length m) where
  sum_sums : (at n : ℕ) → sum_from (sums t m) at n ≡ sum_from t at n + sum_from m at n
  unfolding sum_from
  sum_sums at zero = refl
  sum_sums at (suc n) = omega (arith, get_d_sums t m at h, sum_sums (suc at) n)

  both_agree : Agreeing t → Agreeing m → Agreeing (sums t m)
  both_agree a b =
      let each : (i : ℕ) → get_or (sums t m) i 0 ≡ get_or t i 0 + get_or m i 0 = λ i. get_d_sums t m i h in
      record {
        first = omega (arith, a.first, b.first, each 28, sum_sums 0 7);
        second = omega (arith, a.second, b.second, each 29, sum_sums 7 7);
        third = omega (arith, a.third, b.third, each 30, sum_sums 14 7);
        fourth = omega (arith, a.fourth, b.fourth, each 31, sum_sums 21 7);
        available = omega (arith, a.available, b.available, each 34, sum_sums 0 2);
        operations = omega (arith, a.operations, b.operations, each 32, each 33);
        used = omega (arith, a.used, b.used, each 33, each 34);
      }

none : ConsistentNone
unfolding consistent calls_agree words_agree sum_from
none = refl

kept : ConsistentKept
kept t m h s a b e =
    rw (taken t m e).1
    (agreed (sums t.figures m.figures) (both_agree t.figures m.figures (h ∙ sym s) (agreeing t.figures a) (agreeing m.figures b)))

exact : ConsistentExactly
unfolding consistent calls_agree words_agree
exact t = both (both (equal _ _) (both (equal _ _) (both (equal _ _) (equal _ _)))) (both (equal _ _) (both (at_most _ _) (at_most _ _)))

sum_exactly : SumExactly
unfolding sum_from
sum_exactly = record { none = λ fs at. refl; next = λ fs at n. refl }

pub consistent_claims : ConsistentClaims
consistent_claims = record { exactly = exact; sums = sum_exactly; none = none; kept = kept }

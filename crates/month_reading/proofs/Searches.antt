-- Searches byte by byte: whether a text begins with given bytes, where its first line ends, and what digits stand for.
use mathlib.Core.Path.{◌≡◌, refl, sym, ap, ◌∙◌}
use mathlib.Core.Bool.{Bool, true, false, ◌&&◌}
use mathlib.Core.List.{List, [], ◌∷◌}
use Prim.Native.Nat.{ℕ, ◌+◌, ◌-◌, ◌*◌, ◌<◌, ◌≤◌}
use native.Mathlib.Numerals.{add-one}
use native.Mathlib.Omega.{arith}
use lib.Dec.{eqb}
use lib.ListN.{length, take, drop, get_or, length-append, drop_of_length-le}
use lib.Seq.{drop-cons}
use borrow.Author.Tests.{eq-eqb, ne_eqb, lt-ltb, le-ltb}
use Rattle.std.specs.Prelude.{Some, None}
use Rattle.std.specs.Cmp.Lexicographic.{pointwise}
use native.Mathlib.Nat.{add-zero}
use Rattle.words.proofs.Choice.{decide}
use Rattle.month_table.specs.Reading.{begins, line, value_from}
use Rattle.month_reading.specs.Inner.Terms.{count_of}
use Rattle.month_table.proofs.Begins.{begins_split}
use Rattle.month_table.proofs.Parts.{middle_part}

-- ---- a comparison

pub begins_length : (p t : List ℕ) → begins p t ≡ true → length p ≤ length t
begins_length p t e = omega (arith, ap length (begins_split p t e), length-append p (drop (length p) t))

pub begins_short : (p t : List ℕ) → length t < length p → begins p t ≡ false
begins_short p t h = decide (begins p t) (λ e. absurd (omega (arith, begins_length p t e))) (λ e. e)

-- what std says of `text.starts_with(front)`
pub begins_is : (p t : List ℕ) → pointwise eqb p (take (length p) t) ≡ begins p t
unfolding begins
begins_is [] t = refl
begins_is (b ∷ bs) [] = refl
begins_is (b ∷ bs) (t ∷ ts) = ap (λ (x : Bool). eqb b t && x) (begins_is bs ts)

-- ---- the first line

pub line_within : (t : List ℕ) → length (line t) ≤ length t
unfolding line
line_within [] = omega arith
line_within (b ∷ bs) = decide (eqb b 10) (λ e. rw e (omega arith)) (λ e. rw e (omega (arith, line_within bs)))

line_front : (t : List ℕ) → line t ≡ take (length (line t)) t
unfolding line
line_front [] = refl
line_front (b ∷ bs) = decide (eqb b 10) (λ e. rw e) (λ e. rw e (ap (λ (l : List ℕ). b ∷ l) (line_front bs)))

pub line_part : (t : List ℕ) (k e : ℕ) → e ≡ length (line t) → k ≤ e → take (e - k) (drop k t) ≡ drop k (line t)
line_part t k e q h = middle_part k e t h ∙ ap (drop k) (rw q (sym (line_front t)))

-- There is no newline before byte i.
pub record Lined (t : List ℕ) (i : ℕ) : Type 0 where
  pub inside : i ≤ length t
  pub same : length (line t) ≡ i + length (line (drop i t))

module _ {t : List ℕ} {i : ℕ} (k : Lined t i) where
  pub line_next : i < length t → (get_or t i 0 ≡ 10 → ⊥) → Lined t (i + 1)
  unfolding line
  line_next h e = record { inside = omega arith; same = k.same ∙ rw (drop-cons t i 0 h, ne_eqb (get_or t i 0) 10 e, add-one i) (omega arith) }

  pub line_here : i < length t → get_or t i 0 ≡ 10 → i ≡ length (line t)
  unfolding line
  line_here h e = sym (k.same ∙ rw (drop-cons t i 0 h, eq-eqb (get_or t i 0) 10 e, add-zero i))

  pub line_end : length t ≤ i → i ≡ length (line t)
  unfolding line
  line_end h = sym (k.same ∙ rw (drop_of_length-le t h, add-zero i))

-- ---- a count

value_grows : (v : ℕ) (s : List ℕ) → v ≤ value_from v s
unfolding value_from
value_grows v [] = omega arith
value_grows v (b ∷ bs) = omega (arith, value_grows (10 * v + (b - 48)) bs)

-- The first i digits make the value.
pub record Valued (s : List ℕ) (v i : ℕ) : Type 0 where
  pub inside : i ≤ length s
  pub small : v < 0x1_0000_0000_0000_0000
  pub same : value_from 0 s ≡ value_from v (drop i s)

pub valued_none : (s : List ℕ) → Valued s 0 0
valued_none s = record { inside = omega arith; small = omega arith; same = refl }

module _ {s : List ℕ} {v i : ℕ} (k : Valued s v i) where
  value_step : (d : ℕ) → d ≡ get_or s i 0 - 48 → i < length s → value_from 0 s ≡ value_from (10 * v + d) (drop (i + 1) s)
  unfolding value_from
  value_step d e h = k.same ∙ rw (drop-cons s i 0 h, add-one i, e)

  pub value_next : (d : ℕ) → d ≡ get_or s i 0 - 48 → i < length s → 10 * v + d < 0x1_0000_0000_0000_0000 → Valued s (10 * v + d) (i + 1)
  value_next d e h l = record { inside = omega arith; small = l; same = value_step d e h }

  pub value_over : (d : ℕ) → d ≡ get_or s i 0 - 48 → i < length s → 0x1_0000_0000_0000_0000 ≤ 10 * v + d → None ≡ count_of (value_from 0 s)
  value_over d e h l = rw (le-ltb (value_from 0 s) 0x1_0000_0000_0000_0000 (omega (arith, value_step d e h, value_grows (10 * v + d) (drop (i + 1) s))))

  pub value_end : length s ≤ i → Some v ≡ count_of (value_from 0 s)
  unfolding value_from
  value_end h =
      let all : value_from 0 s ≡ v = k.same ∙ rw (drop_of_length-le s h) in
      rw (all, lt-ltb v 0x1_0000_0000_0000_0000 k.small)

pub count_none : (t : List ℕ) (k : ℕ) → length (line t) < k → Some 0 ≡ count_of (value_from 0 (drop k (line t)))
unfolding value_from
count_none t k h = rw (drop_of_length-le (line t) {i = k} (omega arith))

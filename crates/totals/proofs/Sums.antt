-- Laws of sums: figure by figure, in either order, and one figure after the other as the code adds them.
use Rattle.std.specs.Prelude.{Ok, Err}
use mathlib.Core.Path.{◌≡◌, refl, sym, ap, ◌∙◌}
use mathlib.Core.Bool.{true, false, ◌&&◌}
use mathlib.Core.List.{List, [], ◌∷◌, ◌++◌, append-nil}
use Prim.Native.Nat.{ℕ, zero, suc, ◌+◌, ◌^◌, ◌<◌, ◌≤◌}
use native.Mathlib.Numerals.{add-one}
use native.Mathlib.Omega.{arith}
use lib.Dec.{leb}
use lib.ListN.{length, get_or, set, take, drop, length-set, drop_of_length-le}
use lib.Seq.{drop-cons, drop-set-lt, take-suc-set, take_all, append_snoc, get_or-set_other}
use borrow.Author.Tests.{le-leb, lt-leb, leb-true}
use Rattle.words.proofs.Choice.{and_left, and_right}
use Rattle.totals.specs.declared.adding.Totals.{Totals}
use Rattle.totals.specs.Adding.{totals_of, sums, all_fit, added_to}

abbrev most : ℕ
most = 0xffff_ffff_ffff_ffff

pub length_sums : (t m : List ℕ) → length t ≡ length m → length (sums t m) ≡ length m
unfolding sums
length_sums [] m h = h
length_sums (x ∷ t) [] h = refl
length_sums (x ∷ t) (y ∷ m) h = ap suc (length_sums t m (omega arith))

pub get_d_sums : (t m : List ℕ) (i : ℕ) → length t ≡ length m → get_or (sums t m) i 0 ≡ get_or t i 0 + get_or m i 0
unfolding sums
get_d_sums [] [] i h = refl
get_d_sums [] (y ∷ m) i h = absurd (omega arith)
get_d_sums (x ∷ t) [] i h = absurd (omega arith)
get_d_sums (x ∷ t) (y ∷ m) zero h = refl
get_d_sums (x ∷ t) (y ∷ m) (suc i) h = get_d_sums t m i (omega arith)

-- two lists are added in either order
pub sums_swap : (t a b : List ℕ) → sums (sums t b) a ≡ sums (sums t a) b
unfolding sums
sums_swap [] a b = refl
sums_swap (x ∷ t) [] [] = refl
sums_swap (x ∷ t) [] (z ∷ b) = refl
sums_swap (x ∷ t) (y ∷ a) [] = refl
sums_swap (x ∷ t) (y ∷ a) (z ∷ b) = let e : x + z + y ≡ x + y + z = omega arith in rw (e, sums_swap t a b)

-- adding lowers no figure
pub fit_before : (t m : List ℕ) → length t ≡ length m → all_fit (sums t m) ≡ true → all_fit t ≡ true
unfolding sums all_fit
fit_before [] m h f = refl
fit_before (x ∷ t) [] h f = absurd (omega arith)
fit_before (x ∷ t) (y ∷ m) h f =
    let sum = leb-true (x + y) most (and_left _ _ f) in
    rw (le-leb x most (omega arith)) (fit_before t m (omega arith) (and_right (leb (x + y) most) _ f))

-- all fit where each does, and only there
pub fit_all : (ns : List ℕ) → ((i : ℕ) → get_or ns i 0 ≤ most) → all_fit ns ≡ true
unfolding all_fit
fit_all [] h = refl
fit_all (n ∷ ns) h = rw (le-leb n most (h 0)) (fit_all ns (λ i. h (suc i)))

pub fit_each : (ns : List ℕ) (i : ℕ) → all_fit ns ≡ true → get_or ns i 0 ≤ most
unfolding all_fit
fit_each [] i f = omega arith
fit_each (n ∷ ns) zero f = leb-true n most (and_left _ _ f)
fit_each (n ∷ ns) (suc i) f = fit_each ns i (and_right (leb n most) _ f)

-- ---- one figure after the other

-- The first figures are added. The others decide whether all fit, and with them the sums are whole.
pub record Adding (t m now : List ℕ) (i : ℕ) : Type 0 where
  pub sized : (length now ≡ 35) × (length m ≡ 35)
  pub small : (k : ℕ) → i ≤ k → get_or now k 0 ≤ most
  pub rest : take i now ++ sums (drop i now) (drop i m) ≡ sums t m
  pub fits : all_fit (sums (drop i now) (drop i m)) ≡ all_fit (sums t m)

module _ {t m now : List ℕ} {i : ℕ} (a : Adding t m now i) where
  abbrev sum : ℕ
  sum = get_or now i 0 + get_or m i 0

  abbrev later : List ℕ
  later = sums (drop (suc i) now) (drop (suc i) m)

  front : i < 35 → sums (drop i now) (drop i m) ≡ sum ∷ later
  unfolding sums
  front h = rw (drop-cons now i 0 (omega arith), drop-cons m i 0 (omega arith))

  fit_front : i < 35 → (leb sum most && all_fit later) ≡ all_fit (sums t m)
  unfolding all_fit
  fit_front h = rw (front h) at a.fits

  pub adding_next : i < 35 → sum < 2 ^ 64 → Adding t m (set now i sum) (i + 1)
  adding_next h f =
      let behind = drop-set-lt (suc i) now i sum (omega arith) in
      record {
        sized = (length-set now i sum ∙ a.sized.0, a.sized.1);
        small = λ k l. rw (get_or-set_other now i k sum 0 (λ e. omega arith)) (a.small k (omega arith));
        rest = rw (add-one, take-suc-set now i sum (omega arith), behind, append_snoc) (rw (front h) at a.rest);
        fits = rw (add-one, behind) (rw (le-leb sum most (omega arith)) at (fit_front h));
      }

  pub adding_not : i < 35 → (sum < 2 ^ 64 → ⊥) → all_fit (sums t m) ≡ false
  adding_not h f = sym (rw (lt-leb sum most (omega arith)) at (fit_front h))

  pub adding_end : 35 ≤ i → (now ≡ sums t m) × (all_fit (sums t m) ≡ true)
  unfolding sums all_fit
  adding_end h =
      let none = drop_of_length-le now {i = i} (omega arith) in
      (rw (none, append-nil, take_all i now (omega arith)) at a.rest, sym (rw none at a.fits))

-- ---- totals, and more

module _ (t more : Totals) where
  abbrev pub both : List ℕ
  both = sums t.figures more.figures

  pub added : all_fit both ≡ true → added_to t more ≡ Ok (totals_of both)
  unfolding added_to
  added f = rw f

  pub not_added : all_fit both ≡ false → added_to t more ≡ Err t
  unfolding added_to
  not_added f = rw f

-- The digits that `io` makes are those of the text.
use mathlib.Core.Path.{◌≡◌, refl, ap, ◌∙◌}
use mathlib.Core.List.{[], ◌∷◌}
use Prim.Native.Nat.{ℕ, zero, suc, ◌+◌, ◌-◌, ◌/◌, ◌%◌, ◌^◌, ◌≤◌, ◌<◌, min, max}
use native.Mathlib.Nat.{mod-eq_of_lt, pow-suc, one-le-pow, pow-le-pow_right, min-eq_left, max-eq_left}
use native.Mathlib.Numerals.{sub-one}
use native.Mathlib.Omega.{arith}
use lib.Dec.{ltb}
use borrow.Author.Tests.{lt-ltb, le-ltb, ltb-true, ltb-false}
use Rattle.words.proofs.Choice.{decide}
use Rattle.io.specs.Digits.{IsDigitCount, last_digits as io·digits}
use Rattle.printing.specs.Text.{digits, decimal, hex_digits}
use Rattle.printing.specs.Claims.Printing.{DigitsExactly}

-- one digit
last : (v : ℕ) → io·digits 10 1 v ≡ (48 + v % 10) ∷ []
last v = rw (lt-ltb (v % 10) 10 (omega arith))

fewest : (f k v : ℕ) → k ≤ f → IsDigitCount 10 1 v k → io·digits 10 k v ≡ digits f v
unfolding digits
fewest f zero v h w = absurd (omega (arith, w.0))
fewest zero (suc k) v h w = absurd (omega arith)
fewest (suc f) (suc zero) v h w = let l : v < 10 = w.1 in rw (last v, mod-eq_of_lt l, lt-ltb v 10 l)
fewest (suc f) (suc (suc k)) v h w =
    let low : 10 ^ suc k ≤ v = rw sub-one at (w.2 (omega arith)) in
    let powers = pow-suc 10 k in
    let more : 10 ≤ v = omega (arith, one-le-pow k 10 (omega arith)) in
    let rest : IsDigitCount 10 1 (v / 10) (suc k) = (omega arith, omega (arith, w.1, pow-suc 10 (suc k)), λ _. rw sub-one (omega arith)) in
    rw (le-ltb v 10 more, fewest f (suc k) (v / 10) (omega arith) rest, lt-ltb (v % 10) 10 (omega arith))

-- a number below the n-th power has no more than n digits, or the least that is asked
short : (b least v k n : ℕ) → 0 < b → least ≤ n → v < b ^ n → IsDigitCount b least v k → k ≤ n
short b least v k n some l h w = decide (ltb n k)
    (λ e. let m = ltb-true n k e in absurd (omega (arith, w.2 (omega arith), pow-le-pow_right {n = b} some {i = n} {j = k - 1} (omega arith))))
    (ltb-false n k)

pub decimal-digits : (v k : ℕ) → v < 0x1_0000_0000_0000_0000 → IsDigitCount 10 1 v k → io·digits 10 k v ≡ decimal v
unfolding decimal
decimal-digits v k h w = fewest 20 k v (short 10 1 v k 20 (omega arith) (omega arith) (omega arith) w) w

hex_same : (k v : ℕ) → io·digits 16 k v ≡ hex_digits k v
unfolding hex_digits
hex_same zero v = refl
hex_same (suc k) v = rw (hex_same k (v / 16))

pub hex_digits_lem : (n v k : ℕ) → 1 ≤ n → n ≤ 16 → v < 16 ^ n → IsDigitCount 16 (min (max n 1) 16) v k → io·digits 16 k v ≡ hex_digits n v
hex_digits_lem n v k some few h w =
    let least : min (max n 1) 16 ≡ n = rw (max-eq_left some) (min-eq_left few) in
    let all : IsDigitCount 16 n v k = rw least at w in
    hex_same k v ∙ ap (λ (m : ℕ). hex_digits m v) (omega (arith, all.0, short 16 n v k n (omega arith) (omega arith) h all))

-- ---- the digits one after the other

-- room for one digit more makes no difference
digits_room : (n v : ℕ) → v < 10 ^ suc n → digits (suc (suc n)) v ≡ digits (suc n) v
unfolding digits
digits_room zero v h = rw (lt-ltb v 10 h)
digits_room (suc n) v h = rw (digits_room n (v / 10) (omega (arith, pow-suc 10 (suc n))))

pub digits_exactly : DigitsExactly
unfolding digits decimal hex_digits
digits_exactly =
    record {
      one = λ v h. rw (lt-ltb v 10 h);
      more = λ v h l. rw (le-ltb v 10 h, digits_room 18 (v / 10) (omega arith));
      none = λ v. refl;
      low = λ n v h. rw (lt-ltb (v % 16) 10 h);
      high = λ n v h. rw (le-ltb (v % 16) 10 h);
      byte = λ b. refl;
    }

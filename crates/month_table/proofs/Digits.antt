-- What the digits of a text stand for is the number that they were made of.
use mathlib.Core.Path.{◌≡◌, refl, ap, ◌∙◌}
use mathlib.Core.Bool.{true}
use mathlib.Core.List.{List, [], ◌∷◌, ◌++◌}
use Prim.Native.Nat.{ℕ, zero, suc, ◌+◌, ◌-◌, ◌*◌, ◌/◌, ◌%◌, ◌^◌, ◌<◌}
use native.Mathlib.Nat.{pow-suc}
use native.Mathlib.Omega.{arith}
use lib.Dec.{ltb}
use lib.ListN.{length, drop}
use borrow.Author.Tests.{lt-ltb, le-ltb, ltb-true, ltb-false}
use Rattle.words.specs.Numbers.{Bytes}
use Rattle.words.proofs.Choice.{decide, choose}
use Rattle.printing.specs.Text.{digits, decimal, hex_digit, hex_digits, hex_byte, each}
use Rattle.month_table.specs.Reading.{value_from, digit_value, bytes_in}
use Rattle.month_table.proofs.Begins.{in_line, in_line_append}

value_append : (v : ℕ) (s t : List ℕ) → value_from v (s ++ t) ≡ value_from (value_from v s) t
unfolding value_from
value_append v [] t = refl
value_append v (b ∷ bs) t = value_append (10 * v + (b - 48)) bs t

value_one : (v d : ℕ) → value_from v ((48 + d) ∷ []) ≡ 10 * v + d
unfolding value_from
value_one v d = omega arith

value_none : (v : ℕ) → value_from v [] ≡ v
unfolding value_from
value_none v = refl

value_digits : (n v : ℕ) → v < 10 ^ n → value_from 0 (digits n v) ≡ v
unfolding digits
value_digits zero v h = value_none 0 ∙ omega arith
value_digits (suc n) v h = choose (ltb v 10) (λ (s : List ℕ). value_from 0 s ≡ v)
    (λ t. value_one 0 v ∙ omega arith)
    (λ t. value_append 0 (digits n (v / 10)) ((48 + v % 10) ∷ [])
    ∙ rw (value_digits n (v / 10) (omega (arith, pow-suc 10 n))) (value_one (v / 10) (v % 10) ∙ omega arith))

pub value_decimal : (v : ℕ) → v < 0x1_0000_0000_0000_0000 → value_from 0 (decimal v) ≡ v
unfolding decimal
value_decimal v h = value_digits 20 v (omega arith)

digits_in_line : (n v : ℕ) → in_line (digits n v) ≡ true
unfolding digits
digits_in_line zero v = refl
digits_in_line (suc n) v = choose (ltb v 10) (λ (s : List ℕ). in_line s ≡ true)
    (λ t. rw (lt-ltb 10 (48 + v) (omega arith)))
    (λ t. in_line_append (digits n (v / 10)) ((48 + v % 10) ∷ []) (digits_in_line n (v / 10)) (rw (lt-ltb 10 (48 + v % 10) (omega arith))))

pub decimal_in_line : (v : ℕ) → in_line (decimal v) ≡ true
unfolding decimal
decimal_in_line v = digits_in_line 20 v

-- ---- hexadecimal digits

digit_value_lem : (d : ℕ) → d < 16 → digit_value (hex_digit d) ≡ d
unfolding digit_value
digit_value_lem d h = decide (ltb d 10)
    (λ t. let l = ltb-true d 10 t in rw (t, lt-ltb (48 + d) 58 (omega arith)) (omega arith))
    (λ t. let l = ltb-false d 10 t in rw (t, le-ltb (87 + d) 58 (omega arith)) (omega arith))

byte_value : (b : ℕ) → b < 256 → (16 * digit_value (hex_digit (b / 16 % 16)) + digit_value (hex_digit (b % 16))) % 256 ≡ b
byte_value b h = rw (digit_value_lem (b / 16 % 16) (omega arith), digit_value_lem (b % 16) (omega arith)) (omega arith)

pub bytes_back : (d r : List ℕ) → Bytes d → bytes_in (length d) (each hex_byte d ++ r) ≡ d
unfolding bytes_in each hex_digits
bytes_back [] r small = refl
bytes_back (b ∷ bs) r small = rw (byte_value b (small 0), bytes_back bs r (λ i. small (suc i)))

pub length_bytes_in : (n : ℕ) (s : List ℕ) → length (bytes_in n s) ≡ n
unfolding bytes_in
length_bytes_in zero s = refl
length_bytes_in (suc n) s = ap suc (length_bytes_in n (drop 2 s))

pub bytes_in_small : (n : ℕ) (s : List ℕ) → Bytes (bytes_in n s)
unfolding bytes_in
bytes_in_small zero s i = omega arith
bytes_in_small (suc n) s zero = omega arith
bytes_in_small (suc n) s (suc i) = bytes_in_small n (drop 2 s) i

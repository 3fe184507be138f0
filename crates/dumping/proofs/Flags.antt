-- Four flags, each there or not, and the test of a wide sum.
use Prim.Native.Nat.{ℕ, ◌+◌, ◌*◌, ◌/◌, ◌%◌, ◌≤◌, ◌<◌}
use mathlib.Core.Path.{◌≡◌, refl}
use mathlib.Core.Bool.{Bool, true, false, cond}
use native.Mathlib.Omega.{arith}
use Rattle.std.specs.Int.{from_bool}

unfoldable pub four : Bool → Bool → Bool → Bool → ℕ
four a b c d = cond a 16_384 0 + cond b 8192 0 + cond c 4096 0 + cond d 2048 0

-- a flag as its number times the test
pub flag_times : (t : Bool) (n m : ℕ) → m ≡ from_bool t → n * m ≡ cond t n 0
flag_times true n m e = grind arith
flag_times false n m e = grind arith

-- a test as a number
abbrev pub one_if_lem : Bool → ℕ
one_if_lem t = cond t 1 0

pub is_one : (t : Bool) → one_if_lem t ≡ 1 → t ≡ true
is_one true e = refl
is_one false e = absurd (omega (arith, e))

-- which flags a number has
pub record Bits (n : ℕ) (a b c d : Bool) : Type 0 where
  pub first : n / 16_384 % 2 ≡ one_if_lem a
  pub second : n / 8192 % 2 ≡ one_if_lem b
  pub third : n / 4096 % 2 ≡ one_if_lem c
  pub fourth : n / 2048 % 2 ≡ one_if_lem d
  pub rest : (n % 2048 ≡ 0) × (n < 32_768)

pub bits : (a b c d : Bool) → Bits (four a b c d) a b c d
unfolding four
bits true true true true = record { first = refl; second = refl; third = refl; fourth = refl; rest = (refl, omega arith) }
bits true true true false = record { first = refl; second = refl; third = refl; fourth = refl; rest = (refl, omega arith) }
bits true true false true = record { first = refl; second = refl; third = refl; fourth = refl; rest = (refl, omega arith) }
bits true true false false = record { first = refl; second = refl; third = refl; fourth = refl; rest = (refl, omega arith) }
bits true false true true = record { first = refl; second = refl; third = refl; fourth = refl; rest = (refl, omega arith) }
bits true false true false = record { first = refl; second = refl; third = refl; fourth = refl; rest = (refl, omega arith) }
bits true false false true = record { first = refl; second = refl; third = refl; fourth = refl; rest = (refl, omega arith) }
bits true false false false = record { first = refl; second = refl; third = refl; fourth = refl; rest = (refl, omega arith) }
bits false true true true = record { first = refl; second = refl; third = refl; fourth = refl; rest = (refl, omega arith) }
bits false true true false = record { first = refl; second = refl; third = refl; fourth = refl; rest = (refl, omega arith) }
bits false true false true = record { first = refl; second = refl; third = refl; fourth = refl; rest = (refl, omega arith) }
bits false true false false = record { first = refl; second = refl; third = refl; fourth = refl; rest = (refl, omega arith) }
bits false false true true = record { first = refl; second = refl; third = refl; fourth = refl; rest = (refl, omega arith) }
bits false false true false = record { first = refl; second = refl; third = refl; fourth = refl; rest = (refl, omega arith) }
bits false false false true = record { first = refl; second = refl; third = refl; fourth = refl; rest = (refl, omega arith) }
bits false false false false = record { first = refl; second = refl; third = refl; fourth = refl; rest = (refl, omega arith) }

-- a flag that is there or not is at most itself
pub flag_most : (t : Bool) (n m : ℕ) → m ≡ cond t n 0 → m ≤ n
flag_most true n m e = omega (arith, e)
flag_most false n m e = omega (arith, e)

pub none_set : (a b c d : Bool) → four a b c d ≡ 0 → (b ≡ false) × (d ≡ false)
unfolding four
none_set a true c d e = absurd (omega (arith, e))
none_set a false c true e = absurd (omega (arith, e))
none_set a false c false e = (refl, refl)

-- A share as two whole numbers in lowest terms (document 02, M-111).
use Rattle.std.specs.Prelude.{ℕ, zero, suc, ◌/◌, ◌%◌, Bool, cond, ◌&&◌, eqb}
use Rattle.shares.specs.declared.share.Share.{Share}

-- Euclid's way to the greatest number that divides both, in at most so many steps
unfoldable pub divisor_in : ℕ → ℕ → ℕ → ℕ
divisor_in zero a b = a
divisor_in (suc n) a b = let rest = divisor_in n b (a % b) in cond (eqb b 0) a rest

-- each step makes the second number less
abbrev pub divisor : ℕ → ℕ → ℕ
divisor a b = divisor_in (suc b) a b

-- 02: "the share used, as two whole numbers in lowest terms (0 over 1 where no call was answered)"
unfoldable pub share_of : ℕ → ℕ → Share
share_of used available =
    cond (eqb available 0)
    (record { part = 0; whole = 1 })
    (record { part = used / divisor used available; whole = available / divisor used available })

-- shares in numbers
abbrev pub reads : ℕ → ℕ → ℕ → ℕ → Bool
reads used available part whole = eqb (share_of used available).part part && eqb (share_of used available).whole whole

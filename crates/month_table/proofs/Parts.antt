-- Parts of a text, as they are lent.
use mathlib.Core.Path.{◌≡◌}
use mathlib.Core.List.{List, [], ◌∷◌}
use Prim.Native.Nat.{ℕ, zero, suc, ◌-◌, ◌≤◌}
use native.Mathlib.Omega.{arith}
use lib.ListN.{length, take, drop, length-drop}
use lib.Seq.{take_all, take-nil, slice}

-- what is left of a text, as it is lent
pub rest_part : (at : ℕ) (t : List ℕ) → take (length t - at) (drop at t) ≡ drop at t
rest_part at t = take_all (length t - at) (drop at t) (omega (arith, length-drop at t))

pub middle_part : (k e : ℕ) (t : List ℕ) → k ≤ e → take (e - k) (drop k t) ≡ slice k e t
middle_part zero e t h = let all : e - 0 ≡ e = omega arith in rw all
middle_part (suc k) zero t h = absurd (omega arith)
middle_part (suc k) (suc e) [] h = take-nil (suc e - suc k)
middle_part (suc k) (suc e) (x ∷ xs) h = let less : suc e - suc k ≡ e - k = omega arith in rw less (middle_part k e xs (omega arith))

-- Laws of the parts of lent buffers.
use Rattle.std.specs.Prelude.{Option, Some, None, IsSome, IsNone, IfSome, unwrap_or}
use mathlib.Core.Bool.{true≢false, false≢true}
use mathlib.Core.Path.{◌≡◌, refl, sym, ap, ◌∙◌}
use mathlib.Core.List.{List, ◌++◌}
use Prim.Native.Nat.{ℕ, ◌+◌, ◌-◌, ◌≤◌}
use native.Mathlib.Omega.{arith}
use lib.ListN.{length, take, drop, length-append, length-drop}
use lib.Seq.{sets, sets-eq, take_all, take-append_seam, length-take-le}

module _ (n : ℕ) (l : List ℕ) (inside : n ≤ length l) where
  -- a part at the front that comes back changed
  module _ (x : List ℕ) (same : length x ≡ length (take n l)) where
    sized : length x ≡ n
    sized = same ∙ length-take-le n l inside

    pub back_inside : n ≤ length (x ++ drop n l)
    back_inside = omega (arith, length-append x (drop n l), sized)

    pub back_front : take n (x ++ drop n l) ≡ x
    back_front = ap (λ (k : ℕ). take k (x ++ drop n l)) (sym sized) ∙ take-append_seam x (drop n l)

    pub back_stored : x ++ drop n l ≡ sets l 0 x
    back_stored = let k : n ≡ 0 + length x = omega (arith, sized) in ap (λ (k : ℕ). x ++ drop k l) k ∙ sym (sets-eq x l 0 (omega (arith, sized)))

-- bytes stored at the front of a buffer
pub stored_front : (body l : List ℕ) → length body ≤ length l → take (length body) (sets l 0 body) ≡ body
stored_front body l h = ap (take (length body)) (sets-eq body l 0 (omega arith)) ∙ take-append_seam body (drop (0 + length body) l)

-- what stands behind the first k bytes
pub behind : (k : ℕ) (l : List ℕ) → take (length l - k) (drop k l) ≡ drop k l
behind k l = take_all (length l - k) (drop k l) (omega (arith, length-drop k l))

-- ---- the size of what waits, if anything does

pub some_is : (w : Option ℕ) → IsSome w → w ≡ Some (unwrap_or w 0)
some_is (Some n) e = refl
some_is None e = absurd (false≢true e)

pub none_is : (w : Option ℕ) → IsNone w → w ≡ None
none_is (Some n) e = absurd (true≢false e)
none_is None e = refl

pub within_is : (w : Option ℕ) → IfSome w (λ n. n ≤ 4100) → unwrap_or w 0 ≤ 4100
within_is (Some n) h = h
within_is None h = omega arith

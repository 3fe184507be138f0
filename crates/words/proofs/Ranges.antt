-- A part of a slice: as the code takes it (`&s[i..j]`), as definitions do (`slice`, `take` and `drop`), and as it is stored.
use mathlib.Core.Path.{◌≡◌, sym, ap, ◌∙◌}
use mathlib.Core.List.{List, append_assoc}
use Prim.Native.Nat.{ℕ, ◌+◌, ◌-◌, ◌≤◌}
use native.Mathlib.Omega.{arith}
use lib.ListN.{length, take, drop}
use lib.Seq.{slice, sets, sets-eq, drop-drop}
use borrow.Rule.Slice.PartMut.{put_mid}
use Rattle.std.specs.Prelude.{slice_range}
use Rattle.std.proofs.lemmas.Slice.{between_is}

module _ {A : Type 0} where
  -- from one place up to another
  pub range_is : (s : List A) (i j : ℕ) → slice_range s i j ≡ slice i j s
  range_is s i j = between_is s i j

  -- so many from a place on
  pub range_from : (s : List A) (i n : ℕ) → slice_range s i (i + n) ≡ take n (drop i s)
  range_from s i n = let all : i + n - i ≡ n = omega arith in ap (λ (k : ℕ). take k (drop i s)) all

  -- a part that was written over
  pub put_stored : (l ys vs : List A) (i e : ℕ) → ys ≡ vs → e ≡ i + length vs → i + length vs ≤ length l → put_mid i (e - i) l ys ≡ sets l i vs
  put_stored l ys vs i e same end fits =
      let all : e - i ≡ length vs = omega (arith, end) in
      rw (same, all, drop-drop (length vs) i l) (sym (append_assoc (take i l) vs _) ∙ sym (sets-eq vs l i fits))

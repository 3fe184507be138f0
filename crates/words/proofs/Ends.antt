-- The bytes before the first NUL, from one place to the next.
use mathlib.Core.Path.{◌≡◌, refl, sym, ap, ◌∙◌}
use mathlib.Core.Bool.{true, false, cond, and-false}
use mathlib.Core.List.{List, [], ◌∷◌, ◌++◌}
use Prim.Native.Nat.{ℕ, zero, suc, ◌+◌, ◌-◌, ◌<◌, ◌≤◌, min}
use native.Mathlib.Omega.{arith}
use lib.Dec.{leb, ltb, eqb}
use lib.ListN.{length, take, drop, length-append, length-take, length-drop}
use lib.Seq.{drop-drop, slice, length-slice, take-take, take-nil}
use borrow.Author.Tests.{le-leb, lt-ltb, le-ltb, leb-true, leb-false, ltb-true, ltb-false}
use Rattle.std.specs.List.{position, position_or_len}
use Rattle.std.specs.Prelude.{◌==◌, ◌⊎◌, Some, None}
use Rattle.std.proofs.Common.{inl, inr}
use Rattle.std.proofs.lemmas.Option.{same_Some, none-some}
use Rattle.std.proofs.lemmas.List.Recursion.{is_position_or_len}
use Rattle.words.specs.Nul.{until_nul, is_ended}
use Rattle.words.proofs.Choice.{decide, and_left, and_right}

pub until_le : (s : List ℕ) → length (until_nul s) ≤ length s
unfolding until_nul
until_le [] = omega arith
until_le (b ∷ bs) = decide (eqb b 0) (λ t. rw t (omega arith)) (λ t. rw t (omega (arith, until_le bs)))

-- the place of the first NUL, or the length
until_position : (s : List ℕ) → length (until_nul s) ≡ position_or_len (λ b. b == 0) s
unfolding until_nul
until_position = is_position_or_len (λ s. length (until_nul s)) (λ b. b == 0) refl (λ b bs. decide (eqb b 0) (λ t. rw t) (λ t. rw t (omega arith)))

-- what a search for it finds
pub nul_found : (s : List ℕ) (i : ℕ) → Some i ≡ position (λ b. b == 0) s → i ≡ length (until_nul s)
nul_found s i e =
    let n = length (until_nul s) in
    let told : Some i ≡ cond (ltb n (length s)) (Some n) None = rw (until_position s) e in
    decide (ltb n (length s)) (λ t. same_Some i n (rw t at told)) (λ t. absurd (none-some i (sym (rw t at told))))

nul_inside : (s : List ℕ) (i : ℕ) → Some i ≡ position (λ b. b == 0) s → i < length s
nul_inside s i e =
    let n = length (until_nul s) in
    let told : Some i ≡ cond (ltb n (length s)) (Some n) None = rw (until_position s) e in
    decide (ltb n (length s)) (λ t. omega (arith, same_Some i n (rw t at told), ltb-true n (length s) t)) (λ t. absurd (none-some i (sym (rw t at told))))

pub nul_missed : (s : List ℕ) → None ≡ position (λ b. b == 0) s → length (until_nul s) ≡ length s
nul_missed s e =
    let n = length (until_nul s) in
    let told : None ≡ cond (ltb n (length s)) (Some n) None = rw (until_position s) e in
    decide (ltb n (length s)) (λ t. absurd (none-some n (rw t at told))) (λ t. omega (arith, until_le s, ltb-false n (length s) t))

-- a search among the first bytes of a list stops where the search of the whole does, or at their end
pub until-take : (m : ℕ) (l : List ℕ) → length (until_nul (take m l)) ≡ min m (length (until_nul l))
unfolding until_nul
until-take zero l = omega arith
until-take (suc m) [] = omega arith
until-take (suc m) (b ∷ bs) = decide (eqb b 0) (λ t. rw t (omega arith)) (λ t. rw t (omega (arith, until-take m bs)))

-- a search goes on behind bytes that hold no NUL
beyond : (n : ℕ) (l : List ℕ) → n ≤ length (until_nul (take n l)) → length (until_nul l) ≡ n + length (until_nul (drop n l))
unfolding until_nul
beyond zero l h = omega arith
beyond (suc n) [] h = absurd (omega arith)
beyond (suc n) (b ∷ bs) h = decide (eqb b 0) (λ t. absurd (omega (arith, rw t at h))) (λ t. rw t (omega (arith, beyond n bs (omega (arith, rw t at h)))))

-- A search that has come to a place: what the next bytes tell.
module _ (s : List ℕ) (i n : ℕ) (fits : i + n ≤ length s) (so_far : length (until_nul s) ≡ i + length (until_nul (drop i s))) where
  part_size : length (take n (drop i s)) ≡ n
  part_size = simp (length-take, length-drop) (omega arith)

  pub nul_here : (k : ℕ) → Some k ≡ position (λ b. b == 0) (take n (drop i s)) → i + k ≡ length (until_nul s)
  nul_here k e =
      let told : k ≡ length (until_nul (take n (drop i s))) = nul_found (take n (drop i s)) k e in
      let first : length (until_nul (take n (drop i s))) ≡ min n (length (until_nul (drop i s))) = until-take n (drop i s) in
      omega (arith, told, first, so_far, nul_inside (take n (drop i s)) k e, part_size)

  pub nul_later : None ≡ position (λ b. b == 0) (take n (drop i s)) → length (until_nul s) ≡ i + n + length (until_nul (drop (i + n) s))
  nul_later e =
      omega (arith, so_far, beyond n (drop i s) (omega (arith, nul_missed (take n (drop i s)) e, part_size)), ap (λ (l : List ℕ). length (until_nul l)) (drop-drop n i s))

-- what the test of a string says of its length
pub ended_bounds : (limit : ℕ) (s : List ℕ) → is_ended limit s ≡ true → (1 ≤ length (until_nul s)) × (length (until_nul s) ≤ limit) × (length (until_nul s) < length s)
unfolding is_ended
ended_bounds limit s e =
    let n = length (until_nul s) in
    let e₁ = and_right (leb 1 n) _ e in
    (leb-true 1 n (and_left _ _ e), leb-true n limit (and_left _ _ e₁), ltb-true n (length s) (and_right (leb n limit) _ e₁))

-- the string that stands in front of bytes, of which so many are searched
module _ (s : List ℕ) (limit end before : ℕ) (near : end ≡ min (length s) (limit + 1)) (found : before ≡ length (until_nul (take end s))) where
  abbrev there : ℕ
  there = length (until_nul s)

  stops_at : before ≡ min end there
  stops_at = found ∙ until-take end s

  none_of : (before ≡ 0) ⊎ (before ≡ end) → (1 ≤ there) × (there ≤ limit) × (there < length s) → ⊥
  none_of (inl e) b = omega (arith, stops_at, near, b.0, b.1, b.2)
  none_of (inr e) b = omega (arith, stops_at, near, b.0, b.1, b.2)

  pub none_ended : (before ≡ 0) ⊎ (before ≡ end) → None ≡ cond (is_ended limit s) (Some there) None
  none_ended h = decide (is_ended limit s) (λ t. absurd (none_of h (ended_bounds limit s t))) (λ t. rw t)

  pub some_ended : (before ≡ 0 → ⊥) → (before ≡ end → ⊥) → Some before ≡ cond (is_ended limit s) (Some there) None
  unfolding is_ended
  some_ended some cut =
      let same : before ≡ there = omega (arith, stops_at, cut) in
      let one : 1 ≤ there = omega (arith, same, some) in
      let few : there ≤ limit = omega (arith, stops_at, near, cut) in
      let inside : there < length s = omega (arith, stops_at, near, cut) in
      rw (same, le-leb 1 there one, le-leb there limit few, lt-ltb there (length s) inside)

-- a string without a NUL, and a NUL behind it
until_append : (l r : List ℕ) → until_nul (l ++ (0 ∷ r)) ≡ until_nul l
unfolding until_nul
until_append [] r = refl
until_append (b ∷ bs) r = decide (eqb b 0) (λ t. rw t refl) (λ t. rw t (ap (λ (l : List ℕ). b ∷ l) (until_append bs r)))

module _ (s name r : List ℕ) (stands : s ≡ name ++ (0 ∷ r)) (non_zero : until_nul name ≡ name) where
  pub string_back : until_nul s ≡ name
  string_back = ap until_nul stands ∙ until_append name r ∙ non_zero

  pub string_ended : (limit : ℕ) → 1 ≤ length name → length name ≤ limit → is_ended limit s ≡ true
  unfolding is_ended
  string_ended limit some few =
      rw (string_back, le-leb 1 (length name) some, le-leb (length name) limit few, lt-ltb (length name) (length s) (omega (arith, ap length stands, length-append name (0 ∷ r))))

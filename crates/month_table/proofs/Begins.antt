-- Texts that begin with given bytes, and the first line of a text.
use mathlib.Core.Path.{◌≡◌, refl, ap}
use mathlib.Core.Bool.{Bool, true, false≢true}
use mathlib.Core.List.{List, [], ◌∷◌, ◌++◌}
use Prim.Native.Nat.{ℕ}
use native.Mathlib.Omega.{arith}
use lib.Dec.{ltb, eqb}
use lib.ListN.{length, drop}
use borrow.Author.Tests.{eq-eqb, ne_eqb, eqb-true, ltb-true}
use Rattle.words.specs.Claims.Cases.{all}
use Rattle.words.proofs.Choice.{and_left, and_right}
use Rattle.month_table.specs.Reading.{begins, line}

pub begins_front : (p r : List ℕ) → begins p (p ++ r) ≡ true
unfolding begins
begins_front [] r = refl
begins_front (b ∷ bs) r = rw (eq-eqb b b refl) (begins_front bs r)

pub begins_split : (p t : List ℕ) → begins p t ≡ true → t ≡ p ++ drop (length p) t
unfolding begins
begins_split [] t e = refl
begins_split (b ∷ bs) [] e = absurd (false≢true e)
begins_split (b ∷ bs) (t ∷ ts) e =
    let same : b ≡ t = eqb-true b t (and_left (eqb b t) (begins bs ts) e) in
    let rest = begins_split bs ts (and_right (eqb b t) (begins bs ts) e) in
    cc

-- ---- bytes of which none is a newline

abbrev pub in_line : List ℕ → Bool
in_line s = all (λ (b : ℕ). ltb 10 b) s

pub in_line_append : (s t : List ℕ) → in_line s ≡ true → in_line t ≡ true → in_line (s ++ t) ≡ true
in_line_append [] t e f = f
in_line_append (b ∷ bs) t e f = rw (and_left (ltb 10 b) (in_line bs) e) (in_line_append bs t (and_right (ltb 10 b) (in_line bs) e) f)

pub line_stops : (s r : List ℕ) → in_line s ≡ true → line (s ++ (10 ∷ r)) ≡ s
unfolding line
line_stops [] r e = refl
line_stops (b ∷ bs) r e =
    rw (ne_eqb b 10 (λ q. omega (arith, ltb-true 10 b (and_left (ltb 10 b) (in_line bs) e)))) (ap (λ (l : List ℕ). b ∷ l) (line_stops bs r (and_right (ltb 10 b) (in_line bs) e)))

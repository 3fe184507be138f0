-- A name and its NUL at the front of bytes: what the test of a string says, both ways.
use mathlib.Core.Path.{◌≡◌, refl, ap, ◌∙◌}
use mathlib.Core.Bool.{true, false}
use mathlib.Core.List.{List, [], ◌∷◌, ◌++◌}
use Prim.Native.Nat.{ℕ, zero, suc, ◌+◌, ◌<◌}
use native.Mathlib.Numerals.{add-one}
use native.Mathlib.Omega.{arith}
use lib.Dec.{eqb}
use lib.ListN.{length, drop}
use lib.Seq.{drop-append-add}
use borrow.Author.Tests.{ne_eqb, eqb-true, eqb-false}
use Rattle.words.specs.Nul.{until_nul, is_ended}
use Rattle.words.specs.Claims.Exactly.{NonZero, Named}
use Rattle.words.proofs.Choice.{decide}
use Rattle.words.proofs.Ends.{ended_bounds, string_back, string_ended}

-- bytes of which none is zero are searched to their end
pub until_all : (s : List ℕ) → NonZero s → until_nul s ≡ s
unfolding until_nul
until_all [] h = refl
until_all (b ∷ bs) h = rw (ne_eqb b 0 (h 0 (omega arith)), until_all bs (λ i l. h (suc i) (omega arith)))

pub until_stops : (s rest : List ℕ) → NonZero s → until_nul (s ++ (0 ∷ rest)) ≡ s
until_stops s rest h = string_back (s ++ (0 ∷ rest)) s rest refl (until_all s h)

-- no byte before the first NUL is zero
non_zero_more : (b : ℕ) (bs : List ℕ) → eqb b 0 ≡ false → NonZero bs → NonZero (b ∷ bs)
non_zero_more b bs t h zero l e = eqb-false b 0 t e
non_zero_more b bs t h (suc i) l e = h i (omega arith) e

pub until_non_zero : (s : List ℕ) → NonZero (until_nul s)
unfolding until_nul
until_non_zero [] = λ i l e. omega arith
until_non_zero (b ∷ bs) = decide (eqb b 0) (λ t. rw t (λ i l e. omega arith)) (λ t. rw t (non_zero_more b (until_nul bs) t (until_non_zero bs)))

-- a search that stops before the end stops at a NUL
pub until_split : (s : List ℕ) → length (until_nul s) < length s → s ≡ until_nul s ++ (0 ∷ drop (length (until_nul s) + 1) s)
unfolding until_nul
until_split [] = λ l. absurd (omega arith)
until_split (b ∷ bs) = decide (eqb b 0)
    (λ t. rw t (λ l. ap (λ (x : ℕ). x ∷ bs) (eqb-true b 0 t)))
    (λ t. rw (t, add-one) (λ l. ap (λ (x : List ℕ). b ∷ x) (rw add-one at (until_split bs (omega arith)))))

-- ---- a name, by the test of a string

module _ {limit : ℕ} {s name rest : List ℕ} (n : Named limit s name rest) where
  pub named_until : until_nul s ≡ name
  named_until = string_back s name rest n.ended (until_all name n.non_zero)

  pub named_rest : drop (length name + 1) s ≡ rest
  named_rest = ap (drop (length name + 1)) n.ended ∙ drop-append-add name (0 ∷ rest) 1

  pub named_ended : is_ended limit s ≡ true
  named_ended = string_ended s name rest n.ended (until_all name n.non_zero) limit n.some n.few

pub ended_named : (limit : ℕ) (s : List ℕ) → is_ended limit s ≡ true → Named limit s (until_nul s) (drop (length (until_nul s) + 1) s)
ended_named limit s e =
    let b = ended_bounds limit s e in
    record { some = b.0; few = b.1; non_zero = until_non_zero s; ended = until_split s b.2 }

-- What the row of a scope tells of the scope.
use mathlib.Core.Path.{◌≡◌}
use mathlib.Core.Bool.{true, false}
use mathlib.Core.List.{List, [], ◌∷◌}
use Prim.Native.Nat.{ℕ}
use lib.Dec.{leb, eqb}
use Rattle.std.proofs.Common.{Option, Some, None, is_some, unwrap_or}
use Rattle.journal.specs.Scope.{valid, row_of, negative, scope_row}
use Rattle.words.proofs.Choice.{decide}

-- a scope with no row is not valid
pub row_none : (scope : ℕ) → None ≡ scope_row scope → valid scope ≡ false
row_none scope e = decide (valid scope) (λ t. let q = rw t at e in cc) (λ t. t)

-- and one with a row is, and that is its row
pub row_some : (scope : ℕ) (row : List ℕ) → Some row ≡ scope_row scope → (valid scope ≡ true) × (row ≡ row_of scope)
row_some scope row e = decide (valid scope) (λ t. let q = rw t at e in (t, cc)) (λ t. let q = rw t at e in (cc, cc))

-- no row at all says the same as a row of zeros
pub row_or : (scope : ℕ) → unwrap_or (scope_row scope) (0 ∷ 0 ∷ 0 ∷ 0 ∷ 0 ∷ 0 ∷ 0 ∷ 0 ∷ 0 ∷ 0 ∷ 0 ∷ 0 ∷ 0 ∷ 0 ∷ 0 ∷ 0 ∷ 0 ∷ []) ≡ row_of scope
unfolding valid row_of negative
row_or scope = decide (leb 0x8000_0000 scope) (λ t. rw t) (λ t. decide (eqb scope 1) (λ u. rw (t, u)) (λ u. decide (eqb scope 2) (λ v. rw (t, u, v))
    (λ v. decide (eqb scope 3) (λ w. rw (t, u, v, w)) (λ w. rw (t, u, v, w)))))

-- whether there is one says whether the scope is valid
pub row_valid : (scope : ℕ) (o : Option (List ℕ)) → o ≡ scope_row scope → is_some o ≡ valid scope
row_valid scope o e = rw e (decide (valid scope) (λ t. rw t) (λ t. rw t))

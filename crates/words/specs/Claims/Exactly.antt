-- Terms that claims share: a statement exactly when another holds, and bytes of which none is zero.
use Rattle.std.specs.Prelude.{ℕ, ◌+◌, ◌<◌, ◌≤◌, ◌≡◌, List, ◌∷◌, ◌++◌, ◌⊎◌, length, get_or}

-- a statement holds exactly when another does
abbrev pub Exactly : Type 0 → Type 0 → Type 0
Exactly P Q = (P → Q) × (Q → P)

-- a place outside of n bytes from another on
abbrev pub Outside : ℕ → ℕ → ℕ → Type 0
Outside from n k = (k < from) ⊎ (from + n ≤ k)

-- no byte is zero
abbrev pub NonZero : List ℕ → Type 0
NonZero s = (i : ℕ) → i < length s → get_or s i 0 ≡ 0 → ⊥

-- bytes begin with a name of 1 to `limit` bytes, none of them zero, and its NUL; `rest` is what follows
pub record Named (limit : ℕ) (s name rest : List ℕ) : Type 0 where
  pub some : 1 ≤ length name
  pub few : length name ≤ limit
  pub non_zero : NonZero name
  pub ended : s ≡ name ++ (0 ∷ rest)
